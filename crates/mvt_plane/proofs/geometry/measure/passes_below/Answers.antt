use Rattle.std.proofs.Common.{◌≡◌, ◌↔◌, ◌^◌, ◌<ℤ◌, ◌-ℤ◌, ◌*ℤ◌, IsTrue, true, false, ℤ, pos, to_z, of_z, w64, sym, subst, ◌∙◌, arith}
use Rattle.std.proofs.lemmas.Bool.{cond-true, cond-false}
use Rattle.std.proofs.lemmas.Int.{ints, to_z-of_z}
use Rattle.std.specs.Int.Signed.{lt_z}
use Rattle.mvt_plane.specs.Bound.{IsWithin}
use Rattle.mvt_plane.specs.Geometry.EdgeOrder.{Segment, segment, segment_between}
use Rattle.mvt_plane.specs.Geometry.Measure.{key_of, orientation}
use Rattle.mvt_plane.specs.Position.{Position}
use Rattle.mvt_plane.proofs.Orders.Sides.{turned_back}
use Rattle.mvt_plane.proofs.Points.Bounds.{IsMultiplied, multiplied, within_fits}
use Rattle.mvt_plane.proofs.geometry.measure.passes_below.Goals as goal
use Rattle.mvt_plane.proofs.geometry.measure.passes_below.Goals.{then-comes_before, else-comes_before}

-- the product of two steps, as it is computed
product : (a b : ℤ) → IsWithin (2 ^ 31) a → IsWithin (2 ^ 31) b → IsMultiplied w64 (2 ^ 62) a b
product a b left right = multiplied w64 (2 ^ 31) (2 ^ 31) a b left right (omega arith) (omega arith) (omega arith)

-- it fits
kept : (z : ℤ) → IsWithin (2 ^ 62) z → to_z w64 (of_z w64 z) ≡ z
kept z within = to_z-of_z w64 z (within_fits w64 (2 ^ 62) z within (omega arith))

-- the test of two numbers
less_test : (a b : ℤ) → IsTrue (lt_z a b) ↔ a <ℤ b
less_test a b = ((λ yes. omega (arith, ints)), (λ less. grind (arith, ints)))

-- the difference of the products is positive exactly where the position is above an edge up the order of keys
above_rising : (from to position : Position) (right left : ℤ) → lt_z (key_of from) (key_of to) ≡ true → right -ℤ left ≡ orientation from to position
    → IsTrue (lt_z left right) ↔ pos 0 <ℤ orientation (segment_between from to).low (segment_between from to).high position
above_rising from to position right left rises same =
    subst (λ (line : Segment). IsTrue (lt_z left right) ↔ pos 0 <ℤ orientation line.low line.high position) (sym (cond-true (lt_z (key_of from) (key_of to)) (segment from to) (segment to from) rises))
    ((λ yes. omega (arith, ints)), (λ above. (less_test left right).1 (omega (arith, ints))))

-- and negative where it is above one down the order
above_falling : (from to position : Position) (right left : ℤ) → lt_z (key_of from) (key_of to) ≡ false → right -ℤ left ≡ orientation from to position
    → IsTrue (lt_z right left) ↔ pos 0 <ℤ orientation (segment_between from to).low (segment_between from to).high position
above_falling from to position right left falls same =
    let back = turned_back from to position in
    subst (λ (line : Segment). IsTrue (lt_z right left) ↔ pos 0 <ℤ orientation line.low line.high position) (sym (cond-false (lt_z (key_of from) (key_of to)) (segment from to) (segment to from) falls))
    ((λ yes. omega (arith, ints)), (λ above. (less_test right left).1 (omega (arith, ints))))

pub overflow_mul-right : goal.overflow_mul-right
overflow_mul-right c = (product _ _ c.x_step.ensures.bound c.y_step.ensures.bound).fits

pub overflow_mul-left : goal.overflow_mul-left
overflow_mul-left c = (product _ _ c.y_step-2.ensures.bound c.x_step-2.ensures.bound).fits

pub returns : goal.returns
returns c =
    let right = product _ _ c.x_step.ensures.bound c.y_step.ensures.bound in
    let left = product _ _ c.y_step-2.ensures.bound c.x_step-2.ensures.bound in
    let first = c.x_step.result *ℤ c.y_step.result in
    let second = c.y_step-2.result *ℤ c.x_step-2.result in
    let same : c.x_step.result *ℤ c.y_step.result -ℤ c.y_step-2.result *ℤ c.x_step-2.result ≡ orientation c.args.from c.args.to c.args.position = cc in
    elim c.if-comes_before.branch [
      | then-comes_before w ↦
          rw (w.greater-is, right.value, left.value, kept first right.within, kept second left.within) (above_rising c.args.from c.args.to c.args.position first second (sym c.comes_before.ensures ∙ w.if-comes_before.true) same)
      | else-comes_before w ↦
          rw (w.greater-is, right.value, left.value, kept first right.within, kept second left.within) (above_falling c.args.from c.args.to c.args.position first second (sym c.comes_before.ensures ∙ w.if-comes_before.false) same)
    ]

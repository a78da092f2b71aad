use Rattle.std.proofs.Common.{rules, ◌≡◌, ◌+◌, ℕ, true≢false, FitsSigned, sym, ◌∙◌, subst, arith}
use Rattle.std.specs.Int.{w128}
use Rattle.mvt_confirm.specs.Calls.Rings.{GivesRing}
use Rattle.mvt_confirm.proofs.Shapes.PolygonWalks.{AreBefore, at_polygon, before_all, exterior_passed, hole_passed, none_so_far, not_alone}
use Rattle.mvt_confirm.proofs.Shapes.RingCounts.{where_some}
use Rattle.mvt_confirm.proofs.Shapes.RingPlaces.{exterior_by_bits}
use Rattle.mvt_wire.proofs.NothingFound.{IfNone-held}
use Rattle.mvt_confirm.proofs.apart.pass_to_polygon.Goals.{then-measure-gt0+else-before-eq0, else-measure-gt0}
use Rattle.mvt_confirm.proofs.apart.pass_to_polygon.Goals as goal

pub rings-init : goal.rings-init
rings-init c = λ rings ahead_left left. before_all rings c.args.polygon c.args.ahead.now c.args.vertices.now ahead_left left

pub returns-then-before-eq0-clause-there : goal.returns-then-before-eq0-clause-there
returns-then-before-eq0-clause-there c = λ holds rings ahead_left left able.
    let so_far = c.rings.invariant rings ahead_left left in
    let fits : FitsSigned w128 c.in-Some.measure.doubled_area = search rules in
    let decided = exterior_by_bits rings c.rings.ahead c.next_ring.new.vertices so_far.number c.in-Some.measure so_far.ahead_passed c.in-Some.ensures.ring fits in
    at_polygon rings c.args.polygon c.rings.before c.rings.ahead c.next_ring.new.vertices c.rings.vertices c.in-Some.measure so_far c.in-Some.ensures.ring able c.if-before-eq0.true
    (decided.0 c.if-measure-gt0.true)

pub returns-then-is_none-clause-none : goal.returns-then-is_none-clause-none
returns-then-is_none-clause-none c = λ fails rings its ahead_left left is.
    let ends = IfNone-held c.next_ring-in-Some.result c.if-is_none.ensures c.next_ring-in-Some.ensures.end in
    not_alone rings c.args.polygon c.rings.before c.rings.ahead c.next_ring.new.vertices c.rings.vertices c.in-Some.measure (c.rings.invariant rings ahead_left left) c.in-Some.ensures.ring ends

pub rings-preserved : goal.rings-preserved
rings-preserved c = λ rings ahead_left left.
    let so_far = c.rings.invariant rings ahead_left left in
    let fits : FitsSigned w128 c.in-Some.measure.doubled_area = search rules in
    let decided = exterior_by_bits rings c.rings.ahead c.next_ring.new.vertices so_far.number c.in-Some.measure so_far.ahead_passed c.in-Some.ensures.ring fits in
    let its = where_some c.next_ring-in-Some.result (GivesRing c.rings.vertices c.next_ring-in-Some.new.vertices) c.if-is_none.ensures c.next_ring-in-Some.ensures.ring in
    elim c.if-measure-gt0.branch [
      | then-measure-gt0+else-before-eq0 w ↦
          let some = w.if-before-eq0.false in
          let one_less : c.if-measure-gt0.before + 1 ≡ c.rings.before = omega (arith, w.before-is) in
          exterior_passed rings c.args.polygon c.rings.before c.rings.ahead c.next_ring.new.vertices c.rings.vertices c.in-Some.measure so_far c.in-Some.ensures.ring
          c.if-measure-gt0.before c.next_ring-in-Some.new.vertices its.0 its.1 (decided.0 w.if-measure-gt0.true) one_less
      | else-measure-gt0 w ↦
          subst (λ (n : ℕ). AreBefore rings c.args.polygon n c.next_ring.new.vertices c.next_ring-in-Some.new.vertices) (sym w.before-is)
          (hole_passed rings c.args.polygon c.rings.before c.rings.ahead c.next_ring.new.vertices c.rings.vertices c.in-Some.measure so_far c.in-Some.ensures.ring
          c.next_ring-in-Some.new.vertices its.0 its.1 (λ exterior. true≢false (sym (decided.1 exterior) ∙ w.if-measure-gt0.false)))
    ]

pub returns-clause-none : goal.returns-clause-none
returns-clause-none c = λ fails rings its ahead_left left is.
    none_so_far rings c.args.polygon c.rings.before c.rings.ahead c.rings.vertices its (c.rings.invariant rings ahead_left left) c.in_default.ensures.end is

use Rattle.std.proofs.Common.{◌≡◌, Option, Some, None, ℤ, ◌+ℤ◌, ◌*ℤ◌, IfSome, IfNone, w32, to_z, of_z, FitsSigned, refl, sym, ◌∙◌, subst, arith}
use Rattle.std.proofs.lemmas.Int.{to_z-of_z}
use Rattle.std.proofs.lemmas.Option.{none-some, same_Some}
use Rattle.std.specs.Option.{IsSome}
use mir.Syntax.{w128}
use Rattle.mvt_plane.specs.Geometry.RationalPoint.{RationalPoint, IsBounded}
use Rattle.mvt_plane.specs.declared.geometry.edge.Edge.{Edge}
use Rattle.mvt_plane.proofs.Points.Bounds.{fitting}
use Rattle.mvt_plane.proofs.Points.Means.{mean, mean_bounded}
use Rattle.mvt_plane.proofs.Points.NamedPoints.{same_triple}
use Rattle.mvt_plane.proofs.geometry.crossing.mean.Goals as goal

-- a weighted sum of coordinates, as it is passed on
summed : (sum m n a b from to : ℤ) → FitsSigned w128 m → FitsSigned w128 n → FitsSigned w32 a → FitsSigned w32 b → a ≡ from → b ≡ to
    → sum ≡ to_z w128 (of_z w128 m) *ℤ to_z w32 (of_z w32 a) +ℤ to_z w128 (of_z w128 n) *ℤ to_z w32 (of_z w32 b) → sum ≡ m *ℤ from +ℤ n *ℤ to
summed sum m n a b from to m_fits n_fits a_fits b_fits a_is b_is same = rw (← a_is, ← b_is) (simp to_z-of_z at same)

-- the numbers, as they are passed on
passed : (x y m n : ℤ) (edge : Edge) → FitsSigned w128 m → FitsSigned w128 n → x ≡ m *ℤ edge.a.x +ℤ n *ℤ edge.b.x → y ≡ m *ℤ edge.a.y +ℤ n *ℤ edge.b.y → IsBounded (mean edge m n)
    → record { x = to_z w128 (of_z w128 x); y = to_z w128 (of_z w128 y); w = to_z w128 (of_z w128 (to_z w128 (of_z w128 m) +ℤ to_z w128 (of_z w128 n))) } ≡ mean edge m n
passed x y m n edge m_fits n_fits x_is y_is bounded =
    let x_within = bounded.x in
    let y_within = bounded.y in
    let w_positive = bounded.positive in
    let w_within = bounded.w in
    let x_fits : FitsSigned w128 x = omega (arith, fitting) in
    let y_fits : FitsSigned w128 y = omega (arith, fitting) in
    let w_fits : FitsSigned w128 (m +ℤ n) = omega (arith, fitting) in
    let w_is : to_z w128 (of_z w128 (to_z w128 (of_z w128 m) +ℤ to_z w128 (of_z w128 n))) ≡ m +ℤ n = simp to_z-of_z in
    same_triple (to_z-of_z w128 x x_fits ∙ x_is) (to_z-of_z w128 y y_fits ∙ y_is) w_is

-- what is requested is in range
some_by_none : (o : Option RationalPoint) (P : Type 0) → IfNone o (¬ P) → P → IsSome o
some_by_none None P none there = absurd (none there)
some_by_none (Some point) P none there = refl

-- what comes is what was requested
same_by_some : (o : Option RationalPoint) (asked point : RationalPoint) → IfSome o (λ found. found ≡ asked) → o ≡ Some point → point ≡ asked
same_by_some None asked point found there = absurd (none-some point there)
same_by_some (Some it) asked point found there = sym (same_Some it point there) ∙ found

pub weighted_sum-y-requires-clause-weight_a : goal.weighted_sum-y-requires-clause-weight_a
weighted_sum-y-requires-clause-weight_a c = (omega (arith, fitting), omega (arith, fitting))

pub weighted_sum-y-requires-clause-weight_b : goal.weighted_sum-y-requires-clause-weight_b
weighted_sum-y-requires-clause-weight_b c = (omega (arith, fitting), omega (arith, fitting))

pub overflow_add-weight_a : goal.overflow_add-weight_a
overflow_add-weight_a c =
    let fits : FitsSigned w128 (c.args.weight_a +ℤ c.args.weight_b) = omega (arith, fitting) in
    let first : FitsSigned w128 c.args.weight_a = c.ranges.weight_a in
    let second : FitsSigned w128 c.args.weight_b = c.ranges.weight_b in
    simp to_z-of_z fits

pub unwrap-requires : goal.unwrap-requires
unwrap-requires c =
    let edge : Edge = record { a = c.args.a; b = c.args.b } in
    let m = c.args.weight_a in
    let n = c.args.weight_b in
    let x = summed c.weighted_sum-x.result m n c.x.result c.x-2.result c.args.a.x c.args.b.x c.ranges.weight_a c.ranges.weight_b
    (record { sfits = c.x.type_inv }) (record { sfits = c.x-2.type_inv }) c.x.ensures.value c.x-2.ensures.value c.weighted_sum-x.ensures in
    let y = summed c.weighted_sum-y.result m n c.y.result c.y-2.result c.args.a.y c.args.b.y c.ranges.weight_a c.ranges.weight_b
    (record { sfits = c.y.type_inv }) (record { sfits = c.y-2.type_inv }) c.y.ensures.value c.y-2.ensures.value c.weighted_sum-y.ensures in
    let bounded = mean_bounded edge m n c.x.ensures.in_range c.x-2.ensures.in_range c.requires.a_sign c.requires.b_sign c.requires.some c.requires.bound in
    let same = passed c.weighted_sum-x.result c.weighted_sum-y.result m n edge c.ranges.weight_a c.ranges.weight_b x y bounded in
    some_by_none c.new.result _ c.new.ensures.none (subst IsBounded (sym same) bounded)

pub returns-clause-value : goal.returns-clause-value
returns-clause-value c =
    let edge : Edge = record { a = c.args.a; b = c.args.b } in
    let m = c.args.weight_a in
    let n = c.args.weight_b in
    let x = summed c.weighted_sum-x.result m n c.x.result c.x-2.result c.args.a.x c.args.b.x c.ranges.weight_a c.ranges.weight_b
    (record { sfits = c.x.type_inv }) (record { sfits = c.x-2.type_inv }) c.x.ensures.value c.x-2.ensures.value c.weighted_sum-x.ensures in
    let y = summed c.weighted_sum-y.result m n c.y.result c.y-2.result c.args.a.y c.args.b.y c.ranges.weight_a c.ranges.weight_b
    (record { sfits = c.y.type_inv }) (record { sfits = c.y-2.type_inv }) c.y.ensures.value c.y-2.ensures.value c.weighted_sum-y.ensures in
    let bounded = mean_bounded edge m n c.x.ensures.in_range c.x-2.ensures.in_range c.requires.a_sign c.requires.b_sign c.requires.some c.requires.bound in
    let same = passed c.weighted_sum-x.result c.weighted_sum-y.result m n edge c.ranges.weight_a c.ranges.weight_b x y bounded in
    same_by_some c.new.result _ c.unwrap.result c.new.ensures.point c.unwrap.ensures ∙ same

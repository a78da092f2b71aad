use Rattle.std.proofs.Common.{◌≡◌, ℕ, ◌^◌, ◌+ℤ◌, ◌-ℤ◌, ◌≤ℤ◌, ℤ, pos, nat_abs, to_z, of_z, sym, ◌∙◌, ap, ap₂, subst, arith}
use mir.Syntax.{w128}
use Rattle.mvt_plane.specs.Geometry.CommonPoint.{cross_product}
use Rattle.mvt_plane.specs.Position.{Position}
use Rattle.mvt_plane.specs.Geometry.RationalPoint.{RationalPoint, LiesOn}
use Rattle.mvt_plane.specs.Calls.Measure.{AreOpposite}
use Rattle.mvt_plane.specs.declared.geometry.edge.Edge.{Edge}
use Rattle.mvt_plane.proofs.Points.Bounds.{fitting}
use Rattle.mvt_plane.proofs.Points.Crossings.{side}
use Rattle.mvt_plane.proofs.Points.Means.{mean, crossing_of, crossing_size, size_some, crossing_on_first, crossing_on_second}
use Rattle.mvt_plane.proofs.Orders.Order.{zs}
use Rattle.mvt_plane.proofs.geometry.crossing.crossing.Goals as goal

-- Two weights, as they are passed on: the one is what is left of the sum
record ArePassed (m n w b : ℤ) : Type 0 where
  pub rest : to_z w128 (of_z w128 (to_z w128 (of_z w128 w) -ℤ to_z w128 (of_z w128 b))) ≡ m
  pub other : to_z w128 (of_z w128 b) ≡ n
  pub sum : to_z w128 (of_z w128 (to_z w128 (of_z w128 w) -ℤ to_z w128 (of_z w128 b))) +ℤ to_z w128 (of_z w128 b) ≡ w

passed : (m n w b : ℤ) → pos 0 ≤ℤ m → pos 0 ≤ℤ n → m +ℤ n ≡ w → b ≡ n → w ≤ℤ pos (2 ^ 63) → ArePassed m n w b
passed m n w b m_sign n_sign sum same bound = record { rest = omega (arith, fitting); other = omega (arith, fitting); sum = omega (arith, fitting) }

-- the weights of a crossing
weights : (first second : Edge) (w b : ℤ) → AreOpposite (side second first.a) (side second first.b) → w ≡ pos (nat_abs (cross_product first second)) → b ≡ pos (nat_abs (side second first.a))
    → w ≤ℤ pos (2 ^ 63) → ArePassed (pos (nat_abs (side second first.b))) (pos (nat_abs (side second first.a))) w b
weights first second w b opposite w_is b_is bound =
    passed (pos (nat_abs (side second first.b))) (pos (nat_abs (side second first.a))) w b (not_negative (nat_abs (side second first.b))) (not_negative (nat_abs (side second first.a))) (crossing_size first second opposite ∙ sym w_is) b_is bound
  where
    not_negative : (n : ℕ) → pos 0 ≤ℤ pos n
    not_negative n = omega (arith, zs)

-- so the mean is the crossing
mean_is : (first second : Edge) (w b : ℤ) (point : RationalPoint) → ArePassed (pos (nat_abs (side second first.b))) (pos (nat_abs (side second first.a))) w b
    → point ≡ mean first (to_z w128 (of_z w128 (to_z w128 (of_z w128 w) -ℤ to_z w128 (of_z w128 b)))) (to_z w128 (of_z w128 b)) → point ≡ crossing_of first second
mean_is first second w b point known found = found ∙ ap₂ (mean first) known.rest known.other

-- the edges
abbrev edge : Position → Position → Edge
edge a b = record { a = a; b = b }

-- what is known of the weights in a call
known : (c : goal.After-cross_size-weight_b)
    → ArePassed (pos (nat_abs (side (edge c.args.c c.args.d) c.args.b))) (pos (nat_abs (side (edge c.args.c c.args.d) c.args.a))) c.cross_size-w.result c.cross_size-weight_b.result
known c = weights (edge c.args.a c.args.b) (edge c.args.c c.args.d) c.cross_size-w.result c.cross_size-weight_b.result c.requires.first c.cross_size-w.ensures.value c.cross_size-weight_b.ensures.value c.cross_size-w.ensures.bound

-- and of its result
is_crossing : (c : goal.After-mean) → c.mean.result ≡ crossing_of (edge c.args.a c.args.b) (edge c.args.c c.args.d)
is_crossing c =
    mean_is (edge c.args.a c.args.b) (edge c.args.c c.args.d) c.cross_size-w.result c.cross_size-weight_b.result c.mean.result
    (weights (edge c.args.a c.args.b) (edge c.args.c c.args.d) c.cross_size-w.result c.cross_size-weight_b.result c.requires.first c.cross_size-w.ensures.value c.cross_size-weight_b.ensures.value c.cross_size-w.ensures.bound)
    c.mean.ensures.value

pub mean-requires-clause-a_sign : goal.mean-requires-clause-a_sign
mean-requires-clause-a_sign c = at_least_zero _ _ (known c).rest
  where
    at_least_zero : (z : ℤ) (n : ℕ) → z ≡ pos n → pos 0 ≤ℤ z
    at_least_zero z n same = omega (arith, zs)

pub mean-requires-clause-some : goal.mean-requires-clause-some
mean-requires-clause-some c =
    let some = size_some (side (edge c.args.c c.args.d) c.args.a) (side (edge c.args.c c.args.d) c.args.b) c.requires.first in
    let whole = crossing_size (edge c.args.a c.args.b) (edge c.args.c c.args.d) c.requires.first ∙ sym c.cross_size-w.ensures.value ∙ sym (known c).sum in
    subst (λ (z : ℤ). pos 1 ≤ℤ z) whole some

pub mean-requires-clause-bound : goal.mean-requires-clause-bound
mean-requires-clause-bound c = subst (λ (z : ℤ). z ≤ℤ pos (2 ^ 63)) (sym (known c).sum) c.cross_size-w.ensures.bound

pub returns-clause-on_first : goal.returns-clause-on_first
returns-clause-on_first c =
    subst (λ (point : RationalPoint). LiesOn point (edge c.args.a c.args.b)) (sym (is_crossing c)) (crossing_on_first (edge c.args.a c.args.b) (edge c.args.c c.args.d) c.requires.first)

pub returns-clause-on_second : goal.returns-clause-on_second
returns-clause-on_second c =
    subst (λ (point : RationalPoint). LiesOn point (edge c.args.c c.args.d)) (sym (is_crossing c))
    (crossing_on_second (edge c.args.a c.args.b) (edge c.args.c c.args.d) c.requires.first c.requires.second)

pub returns-clause-size : goal.returns-clause-size
returns-clause-size c = ap (λ (point : RationalPoint). point.w) (is_crossing c) ∙ crossing_size (edge c.args.a c.args.b) (edge c.args.c c.args.d) c.requires.first

-- Four vertices of a ring that turns one way at each: no two of their edges meet wrongly.
use Rattle.std.proofs.Common.{◌≡◌, inl, inr, ℕ, zero, suc, ◌<◌, [], ◌∷◌, true, false, not, ◌==◌, ℤ, pos, int_cmp, refl, ◌∙◌, ap, arith}
use Rattle.std.proofs.lemmas.List.Elements.{All-nil}
use Rattle.std.proofs.lemmas.Bool.{not-false}
use Rattle.std.specs.Ordering.{is_eq, ordering_index}
use Rattle.std.specs.declared.cmp.Ordering.{Ordering}
use Rattle.std.specs.declared.cmp.Ordering.TheVariants.{Less, Equal, Greater}
use Rattle.mvt_plane.specs.Geometry.CommonPoint.{none}
use Rattle.mvt_plane.specs.Geometry.Measure.{orientation}
use Rattle.mvt_plane.specs.Position.{Position}
use Rattle.mvt_plane.proofs.Orders.Polynomials.{◌⊖◌, ◌⊗◌, identity}
use Rattle.mvt_plane.proofs.Points.CommonPointChoice.{apart_by_sides}
use Rattle.mvt_sweep.specs.Calls.Convex.{GoRound, IsOnSide, TurnOneWay}
use Rattle.mvt_sweep.specs.Calls.Pairs.{AreEnoughForAll, IsPair}
use Rattle.mvt_sweep.specs.Calls.Sweep.{Tested}
use Rattle.mvt_sweep.specs.Calls.SweepVertices.{edge_at, plan_of, position_at, sweep_count}
use Rattle.mvt_sweep.specs.declared.sweep.vertices.SweepVertices.{SweepVertices}
use Rattle.mvt_sweep.proofs.Vertices.PairsEnough.{ahead_apart, back_apart}
use Rattle.mvt_sweep.proofs.Vertices.VertexPlans.{tested_by_name}

-- three positions turn alike from whichever of them
turned : (a b c : Position) → orientation a b c ≡ orientation b c a
turned a b c = identity (a.x ∷ a.y ∷ b.x ∷ b.y ∷ c.x ∷ c.y ∷ []) (λ A a' B b' C c'. ((B ⊖ A) ⊗ (c' ⊖ a') ⊖ (b' ⊖ a') ⊗ (C ⊖ A), (C ⊖ B) ⊗ (a' ⊖ b') ⊖ (c' ⊖ b') ⊗ (A ⊖ B))) tt

-- a position that is on a side isn't on the line
off_line : (turn : Ordering) (a b c : Position) → ¬ (turn ≡ Equal) → IsOnSide turn a b c → ¬ (orientation a b c ≡ pos 0)
off_line turn a b c turns side flat = turns (side ∙ ap (λ (z : ℤ). int_cmp z (pos 0)) flat)

-- edges opposite each other need no test
opposite_apart : (vertices : SweepVertices) (first second : ℕ) (turn : Ordering) → ¬ (turn ≡ Equal)
    → IsOnSide turn (edge_at vertices first).a (edge_at vertices first).b (edge_at vertices second).a → IsOnSide turn (edge_at vertices first).a (edge_at vertices first).b (edge_at vertices second).b
    → Tested (plan_of vertices) first second
opposite_apart vertices first second turn turns begin end =
    tested_by_name vertices first second (none refl (λ point common. apart_by_sides (edge_at vertices second) (edge_at vertices first) turn turn begin end refl turns point common.on_second common.on_first))

-- two sides that are told to be one are
pub one_side : (turn other : Ordering) → (ordering_index turn == ordering_index other) ≡ true → turn ≡ other
one_side Less Less same = refl
one_side Equal Equal same = refl
one_side Greater Greater same = refl
one_side Less Equal same = absurd (cc)
one_side Less Greater same = absurd (cc)
one_side Equal Less same = absurd (cc)
one_side Equal Greater same = absurd (cc)
one_side Greater Less same = absurd (cc)
one_side Greater Equal same = absurd (cc)

-- the same where they aren't told to differ
pub not_another : (turn other : Ordering) → not (ordering_index turn == ordering_index other) ≡ false → turn ≡ other
not_another turn other alike = one_side turn other (not-false (ordering_index turn == ordering_index other) alike)

-- a side that isn't told to be none is one
pub some_side : (turn : Ordering) → is_eq turn ≡ false → ¬ (turn ≡ Equal)
some_side turn other same = let none : is_eq Equal ≡ false = rw same at other in absurd (cc)

-- in whichever way a side is told
on_side : (turn : Ordering) (z z' : ℤ) → z ≡ z' → turn ≡ int_cmp z (pos 0) → turn ≡ int_cmp z' (pos 0)
on_side turn z z' same side = side ∙ ap (λ (n : ℤ). int_cmp n (pos 0)) same

-- no two of their edges need a test
each_apart : (vertices : SweepVertices) → GoRound vertices → TurnOneWay (position_at vertices 0) (position_at vertices 1) (position_at vertices 2) (position_at vertices 3)
    → (first second : ℕ) → first < second → second < 4 → Tested (plan_of vertices) first second
each_apart vertices round way = by_number
  where
    at : ℕ → Position
    at = position_at vertices

    zero_one : Tested (plan_of vertices) 0 1
    zero_one = ahead_apart vertices 0 1 round.first (rw (round.first, round.second) (off_line way.turn (at 0) (at 1) (at 2) way.turns way.second))

    one_two : Tested (plan_of vertices) 1 2
    one_two = ahead_apart vertices 1 2 round.second (rw (round.second, round.third) (off_line way.turn (at 1) (at 2) (at 3) way.turns way.third))

    two_three : Tested (plan_of vertices) 2 3
    two_three = ahead_apart vertices 2 3 round.third (rw (round.third, round.last) (off_line way.turn (at 2) (at 3) (at 0) way.turns way.last))

    zero_three : Tested (plan_of vertices) 0 3
    zero_three = back_apart vertices 0 3 (λ same. absurd (omega (arith, same, round.first))) round.last (rw (round.last, round.first) (off_line way.turn (at 3) (at 0) (at 1) way.turns way.first))

    zero_two : Tested (plan_of vertices) 0 2
    zero_two = opposite_apart vertices 0 2 way.turn way.turns (rw round.first way.second) (rw (round.first, round.third) (on_side way.turn _ _ (turned (at 3) (at 0) (at 1)) way.first))

    one_three : Tested (plan_of vertices) 1 3
    one_three = opposite_apart vertices 1 3 way.turn way.turns (rw round.second way.third) (rw (round.second, round.last) (on_side way.turn _ _ (turned (at 0) (at 1) (at 2)) way.second))

    by_number : (first second : ℕ) → first < second → second < 4 → Tested (plan_of vertices) first second
    by_number zero zero in_order within = absurd (omega arith)
    by_number zero (suc zero) in_order within = zero_one
    by_number zero (suc (suc zero)) in_order within = zero_two
    by_number zero (suc (suc (suc zero))) in_order within = zero_three
    by_number zero (suc (suc (suc (suc more)))) in_order within = absurd (omega arith)
    by_number (suc zero) zero in_order within = absurd (omega arith)
    by_number (suc zero) (suc zero) in_order within = absurd (omega arith)
    by_number (suc zero) (suc (suc zero)) in_order within = one_two
    by_number (suc zero) (suc (suc (suc zero))) in_order within = one_three
    by_number (suc zero) (suc (suc (suc (suc more)))) in_order within = absurd (omega arith)
    by_number (suc (suc zero)) (suc (suc (suc zero))) in_order within = two_three
    by_number (suc (suc zero)) second in_order within = absurd (omega arith)
    by_number (suc (suc (suc first))) second in_order within = absurd (omega arith)

-- so nothing is to be tested
pub enough_for_four : (vertices : SweepVertices) → sweep_count vertices ≡ 4 → GoRound vertices
    → TurnOneWay (position_at vertices 0) (position_at vertices 1) (position_at vertices 2) (position_at vertices 3) → AreEnoughForAll vertices []
enough_for_four vertices count round way = record {
  few = omega arith;
  each = All-nil (λ (pair : ℕ × ℕ). IsPair vertices pair.0 pair.1);
  rest = λ tested first second in_order last. elim last [
    | inl less ↦ each_apart vertices round way first second in_order (omega (arith, less, count))
    | inr is ↦ absurd (omega (arith, is.1))
  ];
}

-- Pairs of edges that need no test, and those that are left.
use Rattle.std.proofs.Common.{◌≡◌, ◌≢◌, ◌⊎◌, inl, inr, ℕ, Some, false, of_z, ◌==◌, ◌+◌, ◌*◌, ◌<◌, ◌≤◌, All, List, [], ◌∷◌, ◌++◌, length, ℤ, pos, ◌*ℤ◌, ◌<ℤ◌, ◌≤ℤ◌, refl, sym, ◌∙◌, ap, subst, arith}
use Rattle.std.specs.Int.{w128}
use Rattle.std.proofs.lemmas.Bool.{cases_order}
use Rattle.std.proofs.lemmas.List.{length_push}
use Rattle.std.proofs.lemmas.List.Elements.{All-nil, All-pop, All-push}
use Rattle.mvt_plane.specs.Geometry.CommonPoint.{IsCommon, cross_product, none}
use Rattle.mvt_plane.specs.Geometry.Measure.{orientation}
use Rattle.mvt_plane.specs.Position.{Position}
use Rattle.mvt_plane.specs.Geometry.RationalPoint.{RationalPoint, IsAt, IsBetween, LiesOn, whole}
use Rattle.mvt_plane.specs.declared.geometry.edge.Edge.{Edge}
use Rattle.mvt_plane.proofs.Points.CrossingLines.{one_crossing}
use Rattle.mvt_plane.proofs.Orders.Order.{mono_lt_right, zs}
use Rattle.mvt_plane.proofs.Orders.Polynomials.{◌⊖◌, ◌⊗◌, identity}
use Rattle.mvt_plane.proofs.Points.RationalPoints.{begin_lies_on, end_lies_on, times_one}
use Rattle.mvt_sweep.specs.Calls.SweepVertices.{NoneWrong, sweep_count, edge_at, next_at, plan_of, position_at, previous_at, shared_at, turn_at}
use Rattle.mvt_sweep.specs.Calls.Pairs.{AreEdgeBounds, AreHeightsApart, below, above, AreEnough, AreEnoughForAll, AreLess, IsPair, AreEndsWithin}
use Rattle.mvt_sweep.specs.Bounds.{AreBoundsApart}
use Rattle.mvt_sweep.specs.Calls.EdgeBounds.{bounds_at, bounds_count}
use Rattle.mvt_sweep.specs.Calls.Sweep.{Tested}
use Rattle.mvt_sweep.specs.declared.bounds.Bounds.{Bounds}
use Rattle.mvt_sweep.specs.declared.edge_bounds.EdgeBounds.{EdgeBounds}
use Rattle.mvt_sweep.specs.declared.sweep.vertices.SweepVertices.{SweepVertices}
use Rattle.mvt_sweep.proofs.Vertices.FarEdges.{no_common_point}
use Rattle.mvt_sweep.proofs.Vertices.VertexPlans.{tested_by_name, tested_either_way, when_ahead, when_back}

-- Neighbours

-- the edge between two positions
abbrev between : Position → Position → Edge
between a b = record { a = a; b = b }

-- a turn is the cross product of the directions before and after it
turn_is : (a b c : Position) → cross_product (between a b) (between b c) ≡ orientation a b c
turn_is a b c =
    identity (a.x ∷ a.y ∷ b.x ∷ b.y ∷ c.x ∷ c.y ∷ []) (λ A a' B b' C c'. ((B ⊖ A) ⊗ (c' ⊖ b') ⊖ (b' ⊖ a') ⊗ (C ⊖ B), (B ⊖ A) ⊗ (c' ⊖ a') ⊖ (b' ⊖ a') ⊗ (C ⊖ A))) tt

-- where two edges make a turn, they meet there alone
meet_at_turn : (a b c : Position) (point : RationalPoint) → ¬ (orientation a b c ≡ pos 0) → LiesOn point (between a b) → LiesOn point (between b c) → IsAt point b
meet_at_turn a b c point turns on_first on_second =
    let same = one_crossing (between a b) (between b c) point (whole b) (λ flat. turns (sym (turn_is a b c) ∙ flat)) on_first.on_line on_second.on_line
    (end_lies_on (between a b)).on_line (begin_lies_on (between b c)).on_line in
    record { x = sym (times_one point.x) ∙ same.x; y = sym (times_one point.y) ∙ same.y }

-- a turn that was found not to be zero isn't
turns_by_test : (found turn : ℤ) → found ≡ turn → (of_z w128 found == 0) ≡ false → ¬ (turn ≡ pos 0)
turns_by_test found turn is test flat =
    let none : found ≡ pos 0 = is ∙ flat in
    let tested : (of_z w128 (pos 0) == 0) ≡ false = rw none at test in
    cc

-- an edge and the next one that make a turn need no test
pub ahead_apart : (vertices : SweepVertices) (first second : ℕ) → next_at vertices first ≡ second
    → ¬ (orientation (edge_at vertices first).a (edge_at vertices first).b (edge_at vertices second).b ≡ pos 0) → Tested (plan_of vertices) first second
ahead_apart vertices first second next turns =
    let at = position_at vertices in
    tested_by_name vertices first second (none refl (λ point common. common.apart (at second) (when_ahead vertices first second next) (subst (λ (n : ℕ). IsAt point (at n)) next
    (meet_at_turn (at first) (at (next_at vertices first)) (at (next_at vertices second)) point turns common.on_first
    (subst (λ (n : ℕ). LiesOn point (between (at n) (at (next_at vertices second)))) (sym next) common.on_second)))))

-- nor do an edge and the one before it
pub back_apart : (vertices : SweepVertices) (first second : ℕ) → next_at vertices first ≢ second → next_at vertices second ≡ first
    → ¬ (orientation (edge_at vertices second).a (edge_at vertices second).b (edge_at vertices first).b ≡ pos 0) → Tested (plan_of vertices) first second
back_apart vertices first second not next turns =
    let at = position_at vertices in
    tested_by_name vertices first second (none refl (λ point common. common.apart (at first) (when_back vertices first second not next) (subst (λ (n : ℕ). IsAt point (at n)) next
    (meet_at_turn (at second) (at (next_at vertices second)) (at (next_at vertices first)) point turns common.on_second
    (subst (λ (n : ℕ). LiesOn point (between (at n) (at (next_at vertices first)))) (sym next) common.on_first)))))

-- the same where the turn was tested
pub next_apart : (vertices : SweepVertices) (first second : ℕ) (turn : ℤ) → next_at vertices first ≡ second
    → turn ≡ orientation (edge_at vertices first).a (edge_at vertices first).b (edge_at vertices second).b → (of_z w128 turn == 0) ≡ false → Tested (plan_of vertices) first second
next_apart vertices first second turn next is test = ahead_apart vertices first second next (turns_by_test turn _ is test)

pub previous_apart : (vertices : SweepVertices) (first second : ℕ) (turn : ℤ) → next_at vertices first ≢ second → next_at vertices second ≡ first
    → turn ≡ orientation (edge_at vertices second).a (edge_at vertices second).b (edge_at vertices first).b → (of_z w128 turn == 0) ≡ false → Tested (plan_of vertices) first second
previous_apart vertices first second turn not next is test = back_apart vertices first second not next (turns_by_test turn _ is test)

-- where a ring turns, its two edges meet in the vertex alone
meet_at_vertex : (here before following : Position) (point : RationalPoint) → ¬ (orientation here before following ≡ pos 0) → LiesOn point (between before here) → LiesOn point (between here following)
    → IsAt point here
meet_at_vertex a b c point turns on_first on_second =
    let turn : cross_product (between a c) (between b a) ≡ orientation a b c =
    identity (a.x ∷ a.y ∷ b.x ∷ b.y ∷ c.x ∷ c.y ∷ []) (λ A a' B b' C c'. ((C ⊖ A) ⊗ (a' ⊖ b') ⊖ (c' ⊖ a') ⊗ (A ⊖ B), (B ⊖ A) ⊗ (c' ⊖ a') ⊖ (b' ⊖ a') ⊗ (C ⊖ A))) tt in
    let same = one_crossing (between a c) (between b a) point (whole a) (λ flat. turns (sym turn ∙ flat)) on_second.on_line on_first.on_line (begin_lies_on (between a c)).on_line (end_lies_on (between b a)).on_line in
    record { x = sym (times_one point.x) ∙ same.x; y = sym (times_one point.y) ∙ same.y }

-- so they need no test
pub turning_apart : (vertices : SweepVertices) (number : ℕ) → number < sweep_count vertices → ¬ (turn_at vertices number ≡ pos 0)
    → Tested (plan_of vertices) (previous_at vertices number) number × Tested (plan_of vertices) number (previous_at vertices number)
turning_apart vertices number within turns =
    let at = position_at vertices in
    let previous = previous_at vertices number in
    let next : next_at vertices previous ≡ number = vertices.linked.back_and_there number within in
    let tested : Tested (plan_of vertices) previous number = tested_by_name vertices previous number (none refl (λ point common. common.apart (at number) (when_ahead vertices previous number next)
    (meet_at_vertex (at number) (at previous) (at (next_at vertices number)) point turns
    (subst (λ (n : ℕ). LiesOn point (between (at previous) (at n))) next common.on_first) common.on_second))) in
    (tested, tested_either_way vertices previous number (vertices.linked.previous_known number within) within tested)

-- Heights

-- all numbers that are between two are less than those that are between two greater ones
less_between : (a b c d z : ℤ) → AreLess a b c d → IsBetween a b z → ¬ IsBetween c d z
less_between a b c d z less (inl up) (inl its) = omega (arith, zs, less.b_c, up.1, its.0)
less_between a b c d z less (inl up) (inr its) = omega (arith, zs, less.b_d, up.1, its.0)
less_between a b c d z less (inr down) (inl its) = omega (arith, zs, less.a_c, down.1, its.0)
less_between a b c d z less (inr down) (inr its) = omega (arith, zs, less.a_d, down.1, its.0)

-- the same of their multiples
less_multiples : (a b c d z w : ℤ) → pos 1 ≤ℤ w → AreLess a b c d → IsBetween (a *ℤ w) (b *ℤ w) z → ¬ IsBetween (c *ℤ w) (d *ℤ w) z
less_multiples a b c d z w positive less =
    let some : pos 0 <ℤ w = omega (arith, zs) in
    less_between (a *ℤ w) (b *ℤ w) (c *ℤ w) (d *ℤ w) z
    (record { a_c = mono_lt_right less.a_c some; a_d = mono_lt_right less.a_d some; b_c = mono_lt_right less.b_c some; b_d = mono_lt_right less.b_d some })

-- so edges that have no height in common need no test
no_test_apart : (vertices : SweepVertices) (first second : ℕ) → AreHeightsApart (edge_at vertices first) (edge_at vertices second) → Tested (plan_of vertices) first second
no_test_apart vertices first second apart = tested_by_name vertices first second (none refl (nothing_common (edge_at vertices first) (edge_at vertices second) apart))
  where
    nothing_common : (one other : Edge) → AreHeightsApart one other → (point : RationalPoint) → ¬ IsCommon (shared_at vertices first second) one other point
    nothing_common one other (below less) point common =
        less_multiples one.a.y one.b.y other.a.y other.b.y point.y point.w common.on_first.positive less common.on_first.y_between common.on_second.y_between
    nothing_common one other (above less) point common =
        less_multiples other.a.y other.b.y one.a.y one.b.y point.y point.w common.on_first.positive less common.on_second.y_between common.on_first.y_between

-- of two edges it doesn't matter which is the first
apart_either_way : (one other : Edge) → AreHeightsApart one other → AreHeightsApart other one
apart_either_way one other (below less) = above less
apart_either_way one other (above less) = below less

pub no_test_either_way : (vertices : SweepVertices) (first second : ℕ) → AreHeightsApart (edge_at vertices first) (edge_at vertices second)
    → Tested (plan_of vertices) first second × Tested (plan_of vertices) second first
no_test_either_way vertices first second apart =
    (no_test_apart vertices first second apart, no_test_apart vertices second first (apart_either_way (edge_at vertices first) (edge_at vertices second) apart))

-- Bounds

-- the bounds of one edge more
pub bounds_more : (vertices : SweepVertices) (many : ℕ) (before after : EdgeBounds) (its : Bounds) → bounds_count after ≡ bounds_count before + 1 → bounds_at after (bounds_count before) ≡ its
    → ((number : ℕ) → number < bounds_count before → bounds_at after number ≡ bounds_at before number) → AreEdgeBounds vertices many before → AreEndsWithin its (edge_at vertices many)
    → AreEdgeBounds vertices (many + 1) after
bounds_more vertices many before after its count last others are ends = record {
  count = omega (arith, count, are.count);
  each = λ number within. elim (cases_order number many) [
    | inl same ↦ rw same (subst (λ (bounds : Bounds). AreEndsWithin bounds (edge_at vertices many)) (sym (ap (bounds_at after) (sym are.count) ∙ last)) ends)
    | inr (inl fewer) ↦ subst (λ (bounds : Bounds). AreEndsWithin bounds (edge_at vertices number)) (sym (others number (omega (arith, fewer, are.count)))) (are.each number fewer)
    | inr (inr more) ↦ absurd (omega (arith, within, more))
  ];
}

-- edges whose bounds are apart need no test
pub no_test_far : (vertices : SweepVertices) (first second : ℕ) (one other : Bounds) → AreEndsWithin one (edge_at vertices first) → AreEndsWithin other (edge_at vertices second) → AreBoundsApart one other
    → Tested (plan_of vertices) first second
no_test_far vertices first second one other ends its_ends apart =
    tested_by_name vertices first second (none refl (λ point common. no_common_point one other (edge_at vertices first) (edge_at vertices second) point apart
    ends.begin ends.end its_ends.begin its_ends.end common.on_first common.on_second))

-- The pairs that are left

-- of no edges there are no pairs
pub enough_of_none : (vertices : SweepVertices) → AreEnough vertices [] 0 0
enough_of_none vertices = record { few = omega arith; each = All-nil (λ (pair : ℕ × ℕ). IsPair vertices pair.0 pair.1); rest = λ tested first second in_order last. elim last [ inl less ↦ absurd (omega (arith, less)) | inr is ↦ absurd (omega (arith, is.1)) ] }

-- an edge was held against all before it, so the next one comes
pub enough_to_next : (vertices : SweepVertices) (pairs : List (ℕ × ℕ)) (number : ℕ) → AreEnough vertices pairs number number → AreEnough vertices pairs (number + 1) 0
enough_to_next vertices pairs number enough = record {
  few = enough.few;
  each = enough.each;
  rest = λ tested first second in_order last. enough.rest tested first second in_order (elim last [
    | inl less ↦ (elim (cases_order second number) [
      | inl same ↦ inr (same, omega (arith, in_order, same))
      | inr (inl fewer) ↦ inl fewer
      | inr (inr more) ↦ absurd (omega (arith, less, more))
    ])
    | inr is ↦ absurd (omega (arith, is.1))
  ]);
}

-- with one more of those before it
one_more : (vertices : SweepVertices) (number last : ℕ) → Tested (plan_of vertices) last number → ((first second : ℕ) → first < second
    → (second < number) ⊎ ((second ≡ number) × (first < last)) → Tested (plan_of vertices) first second) → (first second : ℕ) → first < second
    → (second < number) ⊎ ((second ≡ number) × (first < last + 1)) → Tested (plan_of vertices) first second
one_more vertices number last tested rest first second in_order (inl less) = rest first second in_order (inl less)
one_more vertices number last tested rest first second in_order (inr is) =
    elim (cases_order first last) [
      | inl same ↦ rw (same, is.0) tested
      | inr (inl fewer) ↦ rest first second in_order (inr (is.0, fewer))
      | inr (inr more) ↦ absurd (omega (arith, is.1, more))
    ]

-- it needs no test
pub enough_with_clear : (vertices : SweepVertices) (pairs : List (ℕ × ℕ)) (number last : ℕ) → AreEnough vertices pairs number last → Tested (plan_of vertices) last number
    → AreEnough vertices pairs number (last + 1)
enough_with_clear vertices pairs number last enough clear =
    record { few = enough.few; each = enough.each; rest = λ tested. one_more vertices number last clear (enough.rest tested) }

-- nor does it with the next four
pub enough_with_four : (vertices : SweepVertices) (pairs : List (ℕ × ℕ)) (number last : ℕ) → AreEnough vertices pairs number last
    → ((other : ℕ) → last ≤ other → other < last + 4 → Tested (plan_of vertices) other number) → AreEnough vertices pairs number (last + 4)
enough_with_four vertices pairs number last enough clear =
    let to = λ (other : ℕ). AreEnough vertices pairs number other in
    let one = enough_with_clear vertices pairs number last enough (clear last (omega arith) (omega arith)) in
    let two = enough_with_clear vertices pairs number (last + 1) one (clear (last + 1) (omega arith) (omega arith)) in
    let three = enough_with_clear vertices pairs number (last + 1 + 1) two (clear (last + 1 + 1) (omega arith) (omega arith)) in
    let four = enough_with_clear vertices pairs number (last + 1 + 1 + 1) three (clear (last + 1 + 1 + 1) (omega arith) (omega arith)) in
    let end : last + 1 + 1 + 1 + 1 ≡ last + 4 = omega arith in
    subst to end four

-- or it is to be tested
pub enough_with_pair : (vertices : SweepVertices) (pairs : List (ℕ × ℕ)) (number last : ℕ) → AreEnough vertices pairs number last → last < number → number < sweep_count vertices
    → length pairs < 3 * sweep_count vertices → AreEnough vertices (pairs ++ (last, number) ∷ []) number (last + 1)
enough_with_pair vertices pairs number last enough in_order known room = record {
  few = omega (arith, length_push pairs (last, number), room);
  each = All-push (λ (pair : ℕ × ℕ). IsPair vertices pair.0 pair.1) pairs (last, number) enough.each (record { in_order = in_order; known = known });
  rest = λ tested.
      let both = All-pop (λ (pair : ℕ × ℕ). Tested (plan_of vertices) pair.0 pair.1) (pairs ++ (last, number) ∷ []) pairs (Some (last, number)) refl tested in
      one_more vertices number last both.1 (enough.rest both.0);
}

-- What holds of all edges

-- where all pairs are tested that are to be, no edges meet wrongly
pub none_by_pairs : (vertices : SweepVertices) (pairs : List (ℕ × ℕ)) → AreEnoughForAll vertices pairs → All (λ (pair : ℕ × ℕ). Tested (plan_of vertices) pair.0 pair.1) pairs
    → NoneWrong vertices
none_by_pairs vertices pairs enough tested first second point within inside differ wrong =
    let both : Tested (plan_of vertices) first second = elim (cases_order first second) [
      | inl same ↦ absurd (differ same)
      | inr (inl fewer) ↦ enough.rest tested first second fewer (inl inside)
      | inr (inr more) ↦ tested_either_way vertices second first inside within (enough.rest tested second first more (inl within))
    ] in
    let it = both point wrong.on_first wrong.on_second in
    wrong.apart it.0 it.1 it.2

-- How many of a sweep's vertices are turn vertices.
use Rattle.std.proofs.Common.{◌≡◌, ◌∙◌, ◌+◌, ◌<◌, ◌≤◌, ℕ, zero, suc, Bool, List, [], ◌∷◌, get_or, length, slice_get, Some, take, refl, sym, ap, arith}
use Rattle.std.proofs.lemmas.List.FromFn.{length-range_with_len}
use Rattle.std.proofs.lemmas.List.Sums.{count_by-le-length, sum-map, sum_by-cons, sum_by-le-sum_by, sum_by-take-le, sum_by_more}
use Rattle.std.proofs.lemmas.Option.{get_or_from_slice_get}
use Rattle.std.specs.List.{count_by, range_with_len}
use Rattle.mvt_fault.specs.declared.ring.RingEdge.{RingEdge}
use Rattle.mvt_plane.specs.Position.{Position, origin}
use Rattle.mvt_plane.specs.Geometry.Ring.{next_round}
use Rattle.mvt_sweep.specs.Calls.VertexOrder.{IsOrder, turns_here}
use Rattle.mvt_sweep.specs.Calls.SweepVertices.{AreSweepVertices, IsNumbered, sweep_count, is_turn_at, next_at, position_at, previous_at}
use Rattle.mvt_sweep.specs.Work.{vertex_count}
use Rattle.mvt_sweep.specs.Rings.{AreProperRings}
use Rattle.mvt_sweep.specs.TurnVertices.{previous_round, turn_count, turns_in, turns_of, vertex_in}
use Rattle.mvt_sweep.specs.declared.sweep.vertices.SweepVertices.{SweepVertices}
use Rattle.mvt_sweep.proofs.Vertices.VertexNumbers.{count_cons, count_take, vertex_at}
use Rattle.mvt_sweep.proofs.Vertices.VertexPlans.{next_vertex, previous_vertex}
use Rattle.mvt_sweep.proofs.Vertices.NumbersOnce.{below, distinct, fewer_than_all}
use Rattle.mvt_sweep.proofs.Vertices.TestCounts.{added, from_first}

-- Counts over numbers

-- one more number in front
first_number : (test : ℕ → Bool) (from count : ℕ) → count_by test (range_with_len from (suc count)) ≡ added (test from) + count_by test (range_with_len (from + 1) count)
first_number test from count = from_first test from (range_with_len (from + 1) count)

-- tests that are the same, number by number, hold of as many
same_from : (one two : ℕ → Bool) (count from to : ℕ) → ((number : ℕ) → number < count → one (from + number) ≡ two (to + number))
    → count_by one (range_with_len from count) ≡ count_by two (range_with_len to count)
same_from one two zero from to same = refl
same_from one two (suc count) from to same =
    let here : from + 0 ≡ from = omega arith in
    let there : to + 0 ≡ to = omega arith in
    let first : added (one from) ≡ added (two to) = ap (λ (it : ℕ). added (one it)) (sym here) ∙ ap added (same 0 (omega arith)) ∙ ap (λ (it : ℕ). added (two it)) there in
    let rest = same_from one two count (from + 1) (to + 1)
    (λ number less.
    let here : from + 1 + number ≡ from + suc number = omega arith in
    let there : to + suc number ≡ to + 1 + number = omega arith in
    ap one here ∙ same (suc number) (omega arith) ∙ ap two there) in
    omega (arith, first_number one from count, first_number two to count, first, rest)

-- numbers come apart into the first ones and the others
in_parts : (test : ℕ → Bool) (first rest from : ℕ)
    → count_by test (range_with_len from (first + rest)) ≡ count_by test (range_with_len from first) + count_by test (range_with_len (from + first) rest)
in_parts test zero rest from =
    let none : 0 + rest ≡ rest = omega arith in
    let here : from + 0 ≡ from = omega arith in
    let whole : count_by test (range_with_len from (0 + rest)) ≡ count_by test (range_with_len from rest) = ap (λ (count : ℕ). count_by test (range_with_len from count)) none in
    let last : count_by test (range_with_len (from + 0) rest) ≡ count_by test (range_with_len from rest) = ap (λ (it : ℕ). count_by test (range_with_len it rest)) here in
    let first : count_by test (range_with_len from 0) ≡ 0 = refl in
    omega (arith, whole, last, first)
in_parts test (suc first) rest from =
    let longer : suc first + rest ≡ suc (first + rest) = omega arith in
    let following : from + 1 + first ≡ from + suc first = omega arith in
    let whole : count_by test (range_with_len from (suc first + rest)) ≡ added (test from) + count_by test (range_with_len (from + 1) (first + rest)) =
    ap (λ (count : ℕ). count_by test (range_with_len from count)) longer ∙ first_number test from (first + rest) in
    let last : count_by test (range_with_len (from + 1 + first) rest) ≡ count_by test (range_with_len (from + suc first) rest) =
    ap (λ (it : ℕ). count_by test (range_with_len it rest)) following in
    omega (arith, whole, first_number test from first, in_parts test first rest (from + 1), last)

-- Ring by ring

-- those of one ring before others
turns_cons : (ring : List Position) (rest : List (List Position)) → turn_count (ring ∷ rest) ≡ turns_of ring + turn_count rest
turns_cons ring rest = sum-map turns_of (ring ∷ rest) ∙ sum_by-cons turns_of ring rest ∙ ap (λ (n : ℕ). turns_of ring + n) (sym (sum-map turns_of rest))

-- a test that holds of the numbers of turn vertices alone
abbrev AreTurns : (ℕ → Bool) → List (List Position) → ℕ → Type 0
AreTurns test rings from = (number edge : ℕ) (ring : List Position) → slice_get rings number ≡ Some ring → edge < length ring
    → test (from + vertex_count (take number rings) + edge) ≡ turns_in ring edge

-- holds of as many
turns_counted : (test : ℕ → Bool) (rings : List (List Position)) (from : ℕ) → AreTurns test rings from → count_by test (range_with_len from (vertex_count rings)) ≡ turn_count rings
turns_counted test [] from are = refl
turns_counted test (ring ∷ rest) from are =
    let whole : count_by test (range_with_len from (vertex_count (ring ∷ rest))) ≡ count_by test (range_with_len from (length ring + vertex_count rest)) =
    ap (λ (count : ℕ). count_by test (range_with_len from count)) (count_cons ring rest) in
    let first : count_by test (range_with_len from (length ring)) ≡ turns_of ring = same_from test (turns_in ring) (length ring) from 0
    (λ edge less.
    let here : from + edge ≡ from + vertex_count (take 0 (ring ∷ rest)) + edge = omega arith in
    let there : edge ≡ 0 + edge = omega arith in
    ap test here ∙ are 0 edge ring refl less ∙ ap (turns_in ring) there) in
    let others = turns_counted test rest (from + length ring)
    (λ number edge that there less.
    let here : from + length ring + vertex_count (take number rest) + edge ≡ from + vertex_count (take (suc number) (ring ∷ rest)) + edge = omega (arith, count_take ring rest number) in
    ap test here ∙ are (suc number) edge that there less) in
    omega (arith, whole, in_parts test (length ring) (vertex_count rest) from, first, others, turns_cons ring rest)

-- Vertex by vertex

-- what the sweep has of a vertex turns where the vertex does
turns_there : (rings : List (List Position)) (vertices : SweepVertices) (number : ℕ) (place : RingEdge) → AreProperRings rings → AreSweepVertices rings vertices
    → (is : IsNumbered rings number place) → is_turn_at vertices number ≡ turns_in is.ring place.edge
turns_there rings vertices number place proper are is =
    let here : vertex_in is.ring place.edge ≡ position_at vertices number = get_or_from_slice_get is.ring place.edge (position_at vertices number) origin (vertex_at rings vertices.list.now number place proper are is).here in
    let next : vertex_in is.ring (next_round (length is.ring) place.edge) ≡ position_at vertices (next_at vertices number) =
    get_or_from_slice_get is.ring (next_round (length is.ring) place.edge) (position_at vertices (next_at vertices number)) origin (next_vertex rings vertices.list.now number place proper are is).here in
    let previous : vertex_in is.ring (previous_round (length is.ring) place.edge) ≡ position_at vertices (previous_at vertices number) =
    get_or_from_slice_get is.ring (previous_round (length is.ring) place.edge) (position_at vertices (previous_at vertices number)) origin (previous_vertex rings vertices.list.now number place proper are is).here in
    rw (here, next, previous) refl

-- so as many turn as there are turn vertices
turns_of_vertices : (rings : List (List Position)) (vertices : SweepVertices) → AreProperRings rings → AreSweepVertices rings vertices
    → count_by (is_turn_at vertices) (range_with_len 0 (sweep_count vertices)) ≡ turn_count rings
turns_of_vertices rings vertices proper are =
    ap (λ (count : ℕ). count_by (is_turn_at vertices) (range_with_len 0 count)) are.count
    ∙ turns_counted (is_turn_at vertices) rings 0 (λ number edge ring there less.
    let here : 0 + vertex_count (take number rings) + edge ≡ vertex_count (take number rings) + edge = omega arith in
    ap (is_turn_at vertices) here
    ∙ turns_there rings vertices (vertex_count (take number rings) + edge) (record { ring = number; edge = edge }) proper are
    (record { ring = ring; there = there; within = less; numbered = refl }))

-- and of vertices in order no more do
pub turns_in_order : (rings : List (List Position)) (vertices : SweepVertices) (order : List ℕ) → AreProperRings rings → AreSweepVertices rings vertices → IsOrder vertices order
    → count_by (is_turn_at vertices) order ≤ turn_count rings
turns_in_order rings vertices order proper are is =
    let fewer = fewer_than_all (is_turn_at vertices) (sweep_count vertices) order (distinct order is.numbering.once) (below (sweep_count vertices) order is.numbering.known) in
    omega (arith, fewer, turns_of_vertices rings vertices proper are)

-- a ring has no more turn vertices than vertices
turns_of_ring : (ring : List Position) → turns_of ring ≤ length ring
turns_of_ring ring = omega (arith, count_by-le-length (turns_in ring) (range_with_len 0 (length ring)), length-range_with_len 0 (length ring))

-- so rings don't
pub turns_among_vertices : (rings : List (List Position)) → turn_count rings ≤ vertex_count rings
turns_among_vertices rings =
    omega (arith, sum-map turns_of rings, sum-map (λ (ring : List Position). length ring) rings, sum_by-le-sum_by turns_of (λ (ring : List Position). length ring) rings turns_of_ring)

-- On the way

-- how many of the vertices before a place of the order are turn vertices
abbrev pub turns_before : SweepVertices → List ℕ → ℕ → ℕ
turns_before vertices numbers at = count_by (is_turn_at vertices) (take at numbers)

-- those before the next place
pub turns_more : (vertices : SweepVertices) (numbers : List ℕ) (at : ℕ) → at < length numbers
    → turns_before vertices numbers (at + 1) ≡ turns_before vertices numbers at + turns_here vertices (get_or numbers at 0)
turns_more vertices numbers at within = sum_by_more (λ (number : ℕ). turns_here vertices number) numbers at 0 within

-- before any place are no more than all
pub turns_so_far : (vertices : SweepVertices) (numbers : List ℕ) (at : ℕ) → turns_before vertices numbers at ≤ count_by (is_turn_at vertices) numbers
turns_so_far vertices numbers at = sum_by-take-le (λ (number : ℕ). turns_here vertices number) numbers at

-- the same with the next one
pub turns_with : (vertices : SweepVertices) (numbers : List ℕ) (at : ℕ) → at < length numbers
    → turns_before vertices numbers at + turns_here vertices (get_or numbers at 0) ≤ count_by (is_turn_at vertices) numbers
turns_with vertices numbers at within = omega (arith, turns_more vertices numbers at within, turns_so_far vertices numbers (at + 1))

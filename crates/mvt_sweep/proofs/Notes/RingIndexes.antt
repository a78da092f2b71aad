-- Which ring a vertex is of, from the rings of every eighth one.
use Rattle.std.proofs.Common.{◌≡◌, ◌+◌, ◌-◌, ◌*◌, ◌/◌, ◌%◌, ◌==◌, ◌<◌, ◌≤◌, ltb, ℕ, zero, suc, true, false, inl, inr, List, [], ◌++◌, length, get_or, replicate, slice_get, take, Some, sym, ◌∙◌, ap, ap₂, subst, arith}
use Rattle.std.specs.Int.{div_ceil}
use Rattle.std.proofs.lemmas.Bool.{cases_eq, cases_order, eqb-true, eqb-false}
use Rattle.std.proofs.lemmas.Bool.Decides.{nat_tests}
use Rattle.std.proofs.lemmas.Grind.{div_ceil_times}
use Rattle.std.proofs.lemmas.List.{length-append, length-replicate, get_or-append-add, get_or-replicate, take_all}
use Rattle.std.proofs.lemmas.Option.{get_or_from_slice_get, same_Some, slice_get_within, slice_get-get_or}
use Rattle.mvt_fault.specs.declared.ring.RingEdge.{RingEdge}
use Rattle.mvt_plane.specs.Position.{Position}
use Rattle.mvt_sweep.specs.Calls.SweepVertices.{AreSweepVertices, IsNumbered, far_end_of, is_first_at, sweep_count}
use Rattle.mvt_sweep.specs.Calls.RingNotes.{IsIndexOf}
use Rattle.mvt_sweep.specs.Work.{vertex_count}
use Rattle.mvt_sweep.specs.Rings.{AreProperRings}
use Rattle.mvt_sweep.specs.declared.sweep.vertices.SweepVertices.{SweepVertices}
use Rattle.mvt_sweep.proofs.Notes.NoteWrites.{goes_on}
use Rattle.mvt_sweep.proofs.Vertices.VertexNumbers.{count_after, count_another, count_step, in_order, one_place, sweep_vertex_there, vertex_at}

-- The index

-- the list has the ring of every eighth vertex of so many rings
pub record AreFirstRings (rings : List (List Position)) (count : ℕ) (index : List ℕ) : Type 0 where
  pub size : length index ≡ div_ceil (vertex_count (take count rings)) 8
  pub numbers : (place : ℕ) (at : RingEdge) → IsNumbered rings (8 * place) at → at.ring < count → slice_get index place ≡ Some at.ring

-- so it has of one ring more
pub next_ring_indexed : (rings : List (List Position)) (ring : ℕ) (index more : List ℕ) (vertices : List Position) → slice_get rings ring ≡ Some vertices → AreFirstRings rings ring index
    → let size = div_ceil (vertex_count (take (ring + 1) rings)) 8 in more ≡ take size index ++ replicate (size - length index) ring → AreFirstRings rings (ring + 1) more
next_ring_indexed rings ring index more vertices there are is = subst (AreFirstRings rings (ring + 1)) (sym longer_by_own) (record {
  size = omega (arith, whole, length-replicate (size - length index) ring, longer);
  numbers = λ place at at_is less. elim (cases_eq at.ring ring) [
    | inl same ↦
        let counts = ap (λ (n : ℕ). vertex_count (take n rings)) same in
        let alike : length at_is.ring ≡ length vertices = ap length (same_Some at_is.ring vertices (sym at_is.there ∙ ap (slice_get rings) same ∙ there)) in
        let up : length index ≤ place = omega (arith, at_is.numbered, counts, are.size, before.1) in
        let inside : place < size = omega (arith, at_is.numbered, at_is.within, alike, counts, after.0, step) in
        let further : place ≡ length index + (place - length index) = omega (arith, up) in
        slice_get-get_or (index ++ own) place ring (omega (arith, whole, length-replicate (size - length index) ring, inside, up))
        ∙ ap Some (ap (λ (n : ℕ). get_or (index ++ own) n ring) further ∙ get_or-append-add index own (place - length index) ring
        ∙ get_or-replicate (size - length index) (place - length index) ring ring (omega (arith, inside, up)) ∙ sym same)
    | inr differ ↦ goes_on index own place at.ring (are.numbers place at at_is (omega (arith, less, differ)))
  ];
})
  where
    size : ℕ
    size = div_ceil (vertex_count (take (ring + 1) rings)) 8

    own : List ℕ
    own = replicate (size - length index) ring

    step : vertex_count (take (ring + 1) rings) ≡ vertex_count (take ring rings) + length vertices
    step = count_another rings ring vertices there

    before : (vertex_count (take ring rings) ≤ div_ceil (vertex_count (take ring rings)) 8 * 8) × (div_ceil (vertex_count (take ring rings)) 8 * 8 < vertex_count (take ring rings) + 8)
    before = div_ceil_times (vertex_count (take ring rings)) 8 (omega arith)

    after : (vertex_count (take (ring + 1) rings) ≤ size * 8) × (size * 8 < vertex_count (take (ring + 1) rings) + 8)
    after = div_ceil_times (vertex_count (take (ring + 1) rings)) 8 (omega arith)

    longer : length index ≤ size
    longer = omega (arith, are.size, before.1, after.0, step)

    longer_by_own : more ≡ index ++ own
    longer_by_own = is ∙ ap (λ (list : List ℕ). list ++ own) (take_all size index longer)

    whole : length (index ++ own) ≡ length index + length own
    whole = length-append index own

-- the index has a ring for each vertex
pub kept_within : (rings : List (List Position)) (vertices : SweepVertices) (index : List ℕ) (number : ℕ) → IsIndexOf rings vertices index → number < sweep_count vertices → number / 8 < length index
kept_within rings vertices index number is within =
    let vertex = sweep_vertex_there rings vertices.list.now (8 * (number / 8)) is.are (omega (arith, within)) in
    slice_get_within index (number / 8) vertex.place.ring (is.numbers (number / 8) vertex.place vertex.is)

-- that of the last vertex up to it whose ring is kept
pub kept_read : (rings : List (List Position)) (vertices : SweepVertices) (index : List ℕ) (number ring : ℕ) (at : RingEdge) → IsIndexOf rings vertices index → ring ≡ get_or index (number / 8) ring
    → IsNumbered rings (number - number % 8) at → ring ≡ at.ring
kept_read rings vertices index number ring at is read its =
    let same : 8 * (number / 8) ≡ number - number % 8 = omega arith in
    read ∙ get_or_from_slice_get index (number / 8) at.ring ring
    (is.numbers (number / 8) at (record { ring = its.ring; there = its.there; within = its.within; numbered = same ∙ its.numbered }))

-- From one vertex to the next

-- the far end comes after a vertex where that is the first of its ring
far_end_after : (count before edge : ℕ) → 3 ≤ count → edge < count → ltb (before + edge) (before + far_end_of count edge) ≡ (edge == 0)
far_end_after count before edge several within = grind (arith, nat_tests)

-- so the test says
first_by_edge : (rings : List (List Position)) (vertices : SweepVertices) (number : ℕ) (at : RingEdge) → AreProperRings rings → AreSweepVertices rings vertices → IsNumbered rings number at
    → is_first_at vertices number ≡ (at.edge == 0)
first_by_edge rings vertices number at proper are is =
    let far = (vertex_at rings vertices.list.now number at proper are is).far_end in
    ap₂ ltb is.numbered far ∙ far_end_after (length is.ring) (vertex_count (take at.ring rings)) at.edge (proper.several at.ring is.ring is.there) is.within

-- the first vertex of a ring comes after one of the ring before it
pub ring_begins : (rings : List (List Position)) (vertices : SweepVertices) (number : ℕ) (one other : RingEdge) → AreProperRings rings → AreSweepVertices rings vertices → IsNumbered rings number one
    → IsNumbered rings (number + 1) other → is_first_at vertices (number + 1) ≡ true → other.ring ≡ one.ring + 1
ring_begins rings vertices number one other proper are is its first =
    let edge : other.edge ≡ 0 = eqb-true other.edge 0 (sym (first_by_edge rings vertices (number + 1) other proper are its) ∙ first) in
    let after = count_another rings one.ring is.ring is.there in
    elim (cases_order other.ring (one.ring + 1)) [
      | inl same ↦ same
      | inr (inl before) ↦ elim (in_order rings number (number + 1) one other is its (omega arith)) [ inl later ↦ absurd (omega (arith, before, later)) | inr (alike, less) ↦ absurd (omega (arith, less, edge)) ]
      | inr (inr following) ↦
          let within = slice_get_within rings other.ring its.ring its.there in
          let between = slice_get-get_or rings (one.ring + 1) [] (omega (arith, within, following)) in
          absurd
          (omega (arith, is.numbered, is.within, its.numbered, edge, after, count_after rings (one.ring + 1) other.ring _ between following, proper.several (one.ring + 1) _ between))
    ]

-- any other vertex after one of its ring
pub ring_goes_on : (rings : List (List Position)) (vertices : SweepVertices) (number : ℕ) (one other : RingEdge) → AreProperRings rings → AreSweepVertices rings vertices → IsNumbered rings number one
    → IsNumbered rings (number + 1) other → is_first_at vertices (number + 1) ≡ false → other.ring ≡ one.ring
ring_goes_on rings vertices number one other proper are is its not =
    let some = eqb-false other.edge 0 (sym (first_by_edge rings vertices (number + 1) other proper are its) ∙ not) in
    let edge : 0 < other.edge = omega (arith, some) in
    let place : RingEdge = record { ring = other.ring; edge = other.edge - 1 } in
    let before : IsNumbered rings number place = record { ring = its.ring; there = its.there; within = omega (arith, its.within); numbered = omega (arith, its.numbered, edge) } in
    ap (λ (it : RingEdge). it.ring) (one_place rings number place one before is)

-- How many rings there are

-- no more than vertices
rings_counted : (rings : List (List Position)) (count : ℕ) → AreProperRings rings → count ≤ length rings → count ≤ vertex_count (take count rings)
rings_counted rings zero proper within = omega arith
rings_counted rings (suc count) proper within =
    let there = slice_get-get_or rings count [] (omega (arith, within)) in
    omega (arith, rings_counted rings count proper (omega (arith, within)), count_step rings count _ there, proper.several count _ there)

-- a ring's number isn't above those of its vertices
pub ring_up_to : (rings : List (List Position)) (number : ℕ) (at : RingEdge) → AreProperRings rings → IsNumbered rings number at → at.ring ≤ number
ring_up_to rings number at proper is =
    let within = slice_get_within rings at.ring is.ring is.there in
    omega (arith, is.numbered, rings_counted rings at.ring proper (omega (arith, within)))

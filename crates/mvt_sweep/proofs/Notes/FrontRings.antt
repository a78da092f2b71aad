-- What follows for the rings from the edges that pass below a position, by the numbers of their vertices.
use Rattle.std.proofs.Common.{◌≡◌, ℕ, suc, ◌+◌, ◌-◌, ◌<◌, ◌⊎◌, inl, inr, ◌↔◌, Bool, true, false, IsTrue, List, [], ◌∷◌, length, take, slice_index, pos, refl, sym, ◌∙◌, ap, subst, arith}
use Rattle.std.proofs.lemmas.Option.{same_Some, slice_get_within}
use Rattle.mvt_plane.specs.Geometry.Below.{IsNotAbove, PassesBelow}
use Rattle.mvt_plane.specs.Geometry.EdgeOrder.{segment_between}
use Rattle.mvt_plane.specs.Geometry.Measure.{key_of}
use Rattle.mvt_rules.specs.Meeting.{IsEdgeOf}
use Rattle.mvt_fault.specs.declared.ring.RingEdge.{RingEdge}
use Rattle.mvt_plane.specs.Position.{Position, IsPosition}
use Rattle.mvt_plane.specs.Geometry.Ring.{edges}
use Rattle.mvt_plane.specs.declared.geometry.edge.Edge.{Edge}
use Rattle.mvt_plane.proofs.Insides.EdgeParity.{test, test_decides, odd, odd_decides}
use Rattle.mvt_plane.proofs.Insides.EdgesBelow.{below_or_not}
use Rattle.mvt_plane.proofs.Orders.Gaps.{gap_to_itself}
use Rattle.mvt_plane.proofs.Insides.InsideParity.{no_truth, parts_differ}
use Rattle.mvt_plane.proofs.Orders.Order.{zs}
use Rattle.mvt_sweep.specs.Calls.Chain.{Has, Ordered}
use Rattle.mvt_sweep.specs.Calls.SweepVertices.{AreSweepVertices, IsNumbered, sweep_vertex_at, sweep_count, edge_at, position_at}
use Rattle.mvt_sweep.specs.Work.{vertex_count}
use Rattle.mvt_sweep.specs.Calls.FrontEdges.{AreBelow}
use Rattle.mvt_sweep.specs.Rings.{AreProperRings, AreRingsInRange}
use Rattle.mvt_sweep.specs.Calls.RingsBelow.{is_odd_number, HaveNoneBelow, HaveOddBelow, IsRingBelow}
use Rattle.mvt_sweep.specs.declared.sweep.vertices.SweepVertices.{SweepVertices}
use Rattle.mvt_sweep.proofs.Chains.ChainParts.{each_has, has_place}
use Rattle.mvt_sweep.proofs.Vertices.VertexNumbers.{vertex_at}
use Rattle.mvt_sweep.proofs.Vertices.VertexPlans.{vertex_of_edge, edge_of_sweep_vertex}
use Rattle.mvt_sweep.proofs.Notes.FrontParity.{odd_from, odd_alike, is_in, in_by_has, has_by_in, odd_of_list, odd_of_all, odd_of_rings}

-- Edges in the front

-- an edge of rings that passes below the position is in the front
front_has : (rings : List (List Position)) (vertices : SweepVertices) (position : Position) (front : List ℕ) (number : RingEdge) (edge : Edge)
    → AreProperRings rings → AreSweepVertices rings vertices → AreBelow vertices position front → IsEdgeOf rings number edge → PassesBelow position edge → (at : ℕ) × (edge_at vertices at ≡ edge) × Has front at
front_has rings vertices position front number edge proper are below is passes =
    let it = vertex_of_edge rings vertices number edge proper are is in
    (it.at, it.its_edge, below.all it.at it.within (subst (PassesBelow position) (sym it.its_edge) passes))

-- no edge is in a front of none
none_in : (front : List ℕ) (at : ℕ) → length front ≡ 0 → ¬ Has front at
none_in [] at none has = has
none_in (first ∷ rest) at none has = omega arith

-- where the front has no edges, none passes below the position
pub none_of_front : (rings : List (List Position)) (vertices : SweepVertices) (position : Position) (front : List ℕ) → AreProperRings rings → AreSweepVertices rings vertices
    → AreBelow vertices position front → length front ≡ 0 → HaveNoneBelow position rings
none_of_front rings vertices position front proper are below none number edge is passes =
    let found = front_has rings vertices position front number edge proper are below is passes in
    none_in front found.0 none found.2

-- The last edge of the front

-- it is the last one of those after the first
last_step : (first next : ℕ) (rest : List ℕ) → slice_index (first ∷ next ∷ rest) (length (first ∷ next ∷ rest) - 1) ≡ slice_index (next ∷ rest) (length (next ∷ rest) - 1)
last_step first next rest =
    let same : length (first ∷ next ∷ rest) - 1 ≡ suc (length (next ∷ rest) - 1) = omega arith in
    ap (slice_index (first ∷ next ∷ rest)) same

-- each number of an ordered list is the last one or comes before it
last_after : (R : ℕ → ℕ → Type 0) (xs : List ℕ) (it : ℕ) → Ordered R xs → Has xs it → (it ≡ slice_index xs (length xs - 1)) ⊎ R it (slice_index xs (length xs - 1))
last_after R [] it ordered has = absurd has
last_after R (last ∷ []) it ordered (inl same) = inl (sym same)
last_after R (last ∷ []) it ordered (inr more) = absurd more
last_after R (first ∷ next ∷ rest) it ordered (inl same) =
    let last = has_place (next ∷ rest) (length (next ∷ rest) - 1) (omega arith) in
    inr
    (subst (R it) (sym (last_step first next rest))
    (subst (λ (n : ℕ). R n (slice_index (next ∷ rest) (length (next ∷ rest) - 1))) same (each_has (R first) (next ∷ rest) _ ordered.0 last)))
last_after R (first ∷ next ∷ rest) it ordered (inr more) =
    subst (λ (n : ℕ). (it ≡ n) ⊎ R it n) (sym (last_step first next rest)) (last_after R (next ∷ rest) it ordered.1 more)

-- an edge isn't above itself
not_above_itself : (position : Position) (edge : Edge) → IsNotAbove position edge edge
not_above_itself position edge = let none = gap_to_itself (segment_between edge.a edge.b) (key_of position) (pos 1) in omega (arith, zs, none)

-- of the edges that pass below the position none is above the last one of the front
pub ring_of_front : (rings : List (List Position)) (vertices : SweepVertices) (position : Position) (front : List ℕ) (at : RingEdge)
    → AreProperRings rings → AreSweepVertices rings vertices → AreBelow vertices position front → 0 < length front → IsNumbered rings (slice_index front (length front - 1)) at → IsRingBelow position rings at.ring
ring_of_front rings vertices position front at proper are below some is = record {
  number = at;
  of_ring = refl;
  edge = edge_at vertices last;
  there = edge_of_sweep_vertex rings vertices last at proper are is;
  below = each_has (λ (edge : ℕ). PassesBelow position (edge_at vertices edge)) front last below.below (has_place front (length front - 1) (omega arith));
  none_above = none_above;
}
  where
    last : ℕ
    last = slice_index front (length front - 1)

    either : (one : ℕ) → (one ≡ last) ⊎ IsNotAbove position (edge_at vertices one) (edge_at vertices last) → IsNotAbove position (edge_at vertices one) (edge_at vertices last)
    either one (inl same) = subst (λ (n : ℕ). IsNotAbove position (edge_at vertices n) (edge_at vertices last)) (sym same) (not_above_itself position (edge_at vertices last))
    either one (inr above) = above

    none_above : (another : RingEdge) (other : Edge) → IsEdgeOf rings another other → PassesBelow position other → IsNotAbove position other (edge_at vertices last)
    none_above another other its passes =
        let found = front_has rings vertices position front another other proper are below its passes in
        subst (λ (edge : Edge). IsNotAbove position edge (edge_at vertices last)) found.1
        (either found.0 (last_after (λ (one two : ℕ). IsNotAbove position (edge_at vertices one) (edge_at vertices two)) front found.0 below.rising found.2))

-- Vertices

-- all vertices are in range, since those of a sweep are
pub rings_in_range : (rings : List (List Position)) (vertices : SweepVertices) → AreProperRings rings → AreSweepVertices rings vertices → AreRingsInRange rings
rings_in_range rings vertices proper are number vertex ring position there here =
    let place : RingEdge = record { ring = number; edge = vertex } in
    let at = vertex_count (take number rings) + vertex in
    let is : IsNumbered rings at place = record { ring = ring; there = there; within = slice_get_within ring vertex position here; numbered = refl } in
    let it = vertex_at rings vertices.list.now at place proper are is in
    let same : position_at vertices at ≡ position = same_Some (position_at vertices at) position (sym it.here ∙ here) in
    subst IsPosition same (sweep_vertex_at vertices at).in_range

-- The parity of the front

-- tests that hold together are the same
same_tests : (one other : Bool) → (IsTrue one → IsTrue other) → (IsTrue other → IsTrue one) → one ≡ other
same_tests true true there back = refl
same_tests true false there back = absurd (no_truth (there refl))
same_tests false true there back = absurd (no_truth (back refl))
same_tests false false there back = refl

-- where the test says which edges pass below the position, its parity says whether an odd number of all do
all_decide : (position : Position) (decides : Edge → Bool) → ((edge : Edge) → IsTrue (decides edge) ↔ PassesBelow position edge) → (rings : List (List Position))
    → IsTrue (odd_of_all decides rings) ↔ HaveOddBelow position rings
all_decide position decides each [] = (no_truth, λ impossible. absurd impossible)
all_decide position decides each (ring ∷ rest) =
    parts_differ (odd decides (edges ring)) (odd_of_all decides rest) _ _ (odd_decides (PassesBelow position) decides each (edges ring))
    (all_decide position decides each rest)

-- an odd number of edges are in the front where an odd number of all the rings' edges pass below the position
pub odd_of_front : (rings : List (List Position)) (vertices : SweepVertices) (position : Position) (front : List ℕ) → AreProperRings rings → AreSweepVertices rings vertices
    → AreBelow vertices position front → IsTrue (is_odd_number (length front)) ↔ HaveOddBelow position rings
odd_of_front rings vertices position front proper are below =
    let decides : Edge → Bool = λ edge. test (below_or_not position edge.a edge.b) in
    let each : (edge : Edge) → IsTrue (decides edge) ↔ PassesBelow position edge = λ edge. test_decides (below_or_not position edge.a edge.b) in
    let meets : ℕ → Bool = λ number. decides (edge_at vertices number) in
    let in_front : (number : ℕ) → number < sweep_count vertices → is_in front number ≡ meets number = λ number within.
    same_tests (is_in front number) (meets number)
    (λ there. (each (edge_at vertices number)).1
    (each_has (λ (edge : ℕ). PassesBelow position (edge_at vertices edge)) front number below.below (has_by_in front number there)))
    (λ passes. in_by_has front number below.once (below.all number within ((each (edge_at vertices number)).0 passes))) in
    let of_edge : (number : RingEdge) (edge : Edge) → IsEdgeOf rings number edge → meets (0 + (vertex_count (take number.ring rings) + number.edge)) ≡ decides edge = λ number edge is.
    let it = vertex_of_edge rings vertices number edge proper are is in
    let at : 0 + (vertex_count (take number.ring rings) + number.edge) ≡ it.at = omega (arith, it.numbered.numbered) in
    ap meets at ∙ ap decides it.its_edge in
    let same : is_odd_number (length front) ≡ odd_of_all decides rings =
    odd_of_list front (sweep_count vertices) below.known
    ∙ odd_alike (is_in front) meets 0 (sweep_count vertices) (λ number least most. in_front number (omega arith))
    ∙ ap (odd_from meets 0) are.count ∙ odd_of_rings meets decides rings 0 of_edge in
    let told = all_decide position decides each rings in (
      λ is_odd. told.0 (subst IsTrue same is_odd),
      λ have. subst IsTrue (sym same) (told.1 have),
    )

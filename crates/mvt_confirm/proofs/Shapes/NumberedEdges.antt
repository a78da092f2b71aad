-- Edges and vertices by their numbers, among those of the one ring that a walk goes over.
use Rattle.std.proofs.Common.{◌≡◌, ◌↔◌, ◌≤◌, ℕ, List, length, slice_get, Some, sym, ◌∙◌, ap, subst, arith}
use Rattle.std.proofs.lemmas.Option.{same_Some, slice_get_within}
use Rattle.mvt_fault.specs.declared.ring.RingEdge.{RingEdge}
use Rattle.mvt_rules.specs.Meeting.{ComesBefore, IsEdgeOf, MeetsWrongly}
use Rattle.mvt_rules.specs.Nesting.{IsVertexOf}
use Rattle.mvt_plane.specs.Position.{Position}
use Rattle.mvt_plane.specs.Geometry.RationalPoint.{RationalPoint, IsBounded}
use Rattle.mvt_plane.specs.Geometry.Ring.{edges}
use Rattle.mvt_plane.specs.declared.geometry.edge.Edge.{Edge}
use Rattle.mvt_plane.proofs.Rings.RingEdges.{count_of_edges, ends_of_edge}
use Rattle.mvt_confirm.specs.Calls.EdgeTests.{AreEdgesOf}
use Rattle.mvt_confirm.specs.declared.edge_tests.NumberedEdge.{NumberedEdge}

-- ---- where there is none

-- a ring of rings that are too few
pub too_few_rings : (rings : List (List Position)) (ring : ℕ) (vertices : List Position) → length rings ≤ ring → ¬ (slice_get rings ring ≡ Some vertices)
too_few_rings rings ring vertices few there = let within = slice_get_within rings ring vertices there in omega arith

-- an edge of a ring that has too few
pub too_few_edges : (rings : List (List Position)) (number : RingEdge) (ring : List Position) (edge : Edge) → slice_get rings number.ring ≡ Some ring → length (edges ring) ≤ number.edge
    → ¬ IsEdgeOf rings number edge
too_few_edges rings number ring edge there few is =
    let same : is.ring ≡ ring = same_Some is.ring ring (sym is.there ∙ there) in
    let here : slice_get (edges ring) number.edge ≡ Some edge = subst (λ (vertices : List Position). slice_get (edges vertices) number.edge ≡ Some edge) same is.here in
    let within = slice_get_within (edges ring) number.edge edge here in
    omega arith

-- a vertex of a ring that has too few edges
pub too_few_vertices : (rings : List (List Position)) (ring vertex : ℕ) (vertices : List Position) (position : Position) → slice_get rings ring ≡ Some vertices → length (edges vertices) ≤ vertex
    → ¬ IsVertexOf rings ring vertex position
too_few_vertices rings ring vertex vertices position there few is =
    let same : is.vertices ≡ vertices = same_Some is.vertices vertices (sym is.there ∙ there) in
    let here : slice_get vertices vertex ≡ Some position = ap (λ (ring : List Position). slice_get ring vertex) (sym same) ∙ is.here in
    let within = slice_get_within vertices vertex position here in
    let count = count_of_edges vertices in
    omega arith

-- ---- where there is one

-- a vertex is where the edge of its number begins
pub begins_edge : (rings : List (List Position)) (ring vertex : ℕ) (vertices : List Position) (edge : Edge) → slice_get rings ring ≡ Some vertices → slice_get (edges vertices) vertex ≡ Some edge
    → IsVertexOf rings ring vertex edge.a
begins_edge rings ring vertex vertices edge there here = record { vertices = vertices; there = there; here = (ends_of_edge vertices vertex edge here).0 }

-- a ring has as many vertices as edges
pub counted_by_edges : (rings : List (List Position)) (number : ℕ) (vertices ring : List Position) (count : ℕ) → slice_get rings number ≡ Some vertices → slice_get rings number ≡ Some ring
    → count ≡ length (edges vertices) → length ring ≡ count
counted_by_edges rings number vertices ring count there its is =
    let same : ring ≡ vertices = same_Some ring vertices (sym its ∙ there) in
    ap (λ (ring : List Position). length ring) same ∙ sym (count_of_edges vertices) ∙ sym is

-- ---- two edges

-- they come in order, and meet wrongly at a point that is in range
abbrev MeetsInOrder : List (List Position) → RingEdge → RingEdge → RationalPoint → Type 0
MeetsInOrder rings first second point = ComesBefore first second × IsBounded point × MeetsWrongly rings first second point

-- a test of two edges that exist, with the number of vertices of the first one's ring, decides whether they meet wrongly
abbrev IsTold : Type 0 → List (List Position) → NumberedEdge → NumberedEdge → ℕ → RationalPoint → RingEdge → RingEdge → Type 0
IsTold Found rings one other count point first second =
    IsEdgeOf rings first one.edge → IsEdgeOf rings second other.edge → ((ring : List Position) → slice_get rings first.ring ≡ Some ring → length ring ≡ count)
    → Found ↔ MeetsInOrder rings first second point

-- it decides so for the numbers by which the edges were found
pub decided_by_numbers : {Found : Type 0} (rings : List (List Position)) (one other : NumberedEdge) (count : ℕ) (point : RationalPoint) (first second : RingEdge) → one.number ≡ first → other.number ≡ second
    → (AreEdgesOf rings one other count → Found ↔ MeetsInOrder rings one.number other.number point) → IsTold Found rings one other count point first second
decided_by_numbers {Found} rings one other count point first second is_first is_second decided =
    subst (IsTold Found rings one other count point first) is_second
    (subst (λ (number : RingEdge). IsTold Found rings one other count point number other.number) is_first
    (λ one_there other_there counted. decided (record { one = one_there; other = other_there; count = λ ring same there. counted ring there })))

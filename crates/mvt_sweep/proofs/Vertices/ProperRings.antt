-- Proper rings, each by itself.
use Rattle.std.proofs.Common.{◌≡◌, ◌≢◌, ℕ, List, length, slice_get, Some, true, false, IsTrue, sym, ◌∙◌}
use Rattle.std.proofs.lemmas.Option.{same_Some}
use Rattle.mvt_plane.specs.Geometry.Ring.{edges, next_round}
use Rattle.mvt_plane.specs.Position.{Position}
use Rattle.mvt_plane.specs.declared.geometry.edge.Edge.{Edge}
use Rattle.mvt_plane.proofs.Rings.RingEdges.{ends_of_edge}
use Rattle.mvt_sweep.specs.Calls.Proper.{IsProperRing}
use Rattle.mvt_sweep.specs.Rings.{AreProperRings}

-- an edge between two positions keeps its vertices apart
pub apart_at : (ring : List Position) (vertex : ℕ) (edge : Edge) → slice_get (edges ring) vertex ≡ Some edge → ¬ (edge.a ≡ edge.b) → (position next : Position) → slice_get ring vertex ≡ Some position
    → slice_get ring (next_round (length ring) vertex) ≡ Some next → position ≢ next
apart_at ring vertex edge there apart position next here following same =
    let ends = ends_of_edge ring vertex edge there in
    let first : edge.a ≡ position = same_Some edge.a position (sym ends.0 ∙ here) in
    let second : edge.b ≡ next = same_Some edge.b next (sym ends.1 ∙ following) in
    apart (first ∙ same ∙ sym second)

-- one of no length doesn't
pub not_proper_at : (ring : List Position) (vertex : ℕ) (edge : Edge) → slice_get (edges ring) vertex ≡ Some edge → edge.a ≡ edge.b → ¬ IsProperRing ring
not_proper_at ring vertex edge there same proper =
    let ends = ends_of_edge ring vertex edge there in
    proper.apart vertex edge.a edge.b ends.0 ends.1 same

-- each of proper rings is proper
pub ring_of_proper : (rings : List (List Position)) (number : ℕ) (ring : List Position) → AreProperRings rings → slice_get rings number ≡ Some ring → IsProperRing ring
ring_of_proper rings number ring proper there = record {
  several = proper.several number ring there;
  apart = λ vertex position next here following. proper.apart number vertex ring position next there here following;
}

-- and the other way round
pub all_proper : (rings : List (List Position)) → ((number : ℕ) (ring : List Position) → slice_get rings number ≡ Some ring → IsProperRing ring) → AreProperRings rings
all_proper rings each = record {
  several = λ number ring there. (each number ring there).several;
  apart = λ number vertex ring position next there here following. (each number ring there).apart vertex position next here following;
}

-- what is false shows anything
pub never : {Holds : Type 0} → IsTrue false → Holds
never isnt = let both : false ≡ true = isnt in absurd (cc both)

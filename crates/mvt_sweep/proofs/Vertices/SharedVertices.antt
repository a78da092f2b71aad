-- The vertex that two edges share, by their numbers.
use Rattle.std.proofs.Common.{◌≡◌, ◌≢◌, ◌↔◌, List, length, slice_get, Option, Some, None, sym, ◌∙◌, ap, subst, ℕ}
use Rattle.std.proofs.lemmas.Option.{none-some, same_Some}
use Rattle.mvt_rules.specs.Meeting.{IsEdgeOf, IsShared, Follows, forward, backward}
use Rattle.mvt_fault.specs.declared.ring.RingEdge.{RingEdge}
use Rattle.mvt_plane.specs.Position.{Position}
use Rattle.mvt_plane.specs.Geometry.Ring.{next_round}
use Rattle.mvt_plane.specs.declared.geometry.edge.Edge.{Edge}
use Rattle.mvt_plane.proofs.Rings.RingEdges.{ends_of_edge}
use Rattle.mvt_sweep.specs.Rings.{AreProperRings}
use Rattle.mvt_plane.specs.Geometry.Apart.{HaveNothingInCommon}
use Rattle.mvt_sweep.specs.Meeting.{NoMeeting}
use Rattle.mvt_rules.proofs.Rings.EdgePairs.{one_shared_vertex}

-- an edge that has the next number follows, and the vertex between them is where it begins
pub follows_next : (rings : List (List Position)) (first second : RingEdge) (it : Edge) (ring : List Position) → IsEdgeOf rings second it → slice_get rings first.ring ≡ Some ring → second.ring ≡ first.ring
    → second.edge ≡ next_round (length ring) first.edge → Follows rings first second it.a
follows_next rings first second it ring is there same next =
    let its : is.ring ≡ ring = same_Some is.ring ring (sym is.there ∙ ap (slice_get rings) same ∙ there) in
    record {
      ring = ring;
      there = there;
      same = same;
      next = next;
      between = ap (λ (vertices : List Position). slice_get vertices second.edge) (sym its) ∙ (ends_of_edge is.ring second.edge it is.here).0;
    }

-- a vertex that drawn rings' edges share is the only one
pub only_shared : (rings : List (List Position)) (first second : RingEdge) (ring : List Position) (shared : Position) → AreProperRings rings → slice_get rings first.ring ≡ Some ring
    → IsShared rings first second shared → (vertex : Position) → (Some shared ≡ Some vertex) ↔ IsShared rings first second vertex
only_shared rings first second ring shared drawn there is vertex = (
  λ same. subst (IsShared rings first second) (same_Some shared vertex same) is,
  λ its. ap Some (one_shared_vertex rings first second ring shared vertex there (drawn.several first.ring ring there) is its),
)

-- edges of two rings share none
pub none_in_two_rings : (rings : List (List Position)) (first second : RingEdge) → first.ring ≢ second.ring → (vertex : Position) → ¬ IsShared rings first second vertex
none_in_two_rings rings first second apart vertex (forward follows) = apart (sym follows.same)
none_in_two_rings rings first second apart vertex (backward follows) = apart follows.same

-- nor do edges of which neither follows the other
pub none_apart : (rings : List (List Position)) (first second : RingEdge) (ring : List Position) → slice_get rings first.ring ≡ Some ring
    → second.edge ≢ next_round (length ring) first.edge → first.edge ≢ next_round (length ring) second.edge → (vertex : Position) → ¬ IsShared rings first second vertex
none_apart rings first second ring there not_next not_before vertex (forward follows) =
    let same : follows.ring ≡ ring = same_Some follows.ring ring (sym follows.there ∙ there) in
    not_next (follows.next ∙ ap (λ (vertices : List Position). next_round (length vertices) first.edge) same)
none_apart rings first second ring there not_next not_before vertex (backward follows) =
    let same : follows.ring ≡ ring = same_Some follows.ring ring (sym follows.there ∙ ap (slice_get rings) (sym follows.same) ∙ there) in
    not_before (follows.next ∙ ap (λ (vertices : List Position). next_round (length vertices) second.edge) same)

-- so nothing is what they share
pub none_is_shared : (rings : List (List Position)) (first second : RingEdge) → ((vertex : Position) → ¬ IsShared rings first second vertex)
    → (vertex : Position) → (◌≡◌ {A = Option Position} None (Some vertex)) ↔ IsShared rings first second vertex
none_is_shared rings first second none vertex = (λ same. absurd (none-some vertex same), λ is. absurd (none vertex is))

-- Rings without a wrong meeting

-- two of them have nothing in common
pub nothing_in_common : (rings : List (List Position)) → NoMeeting rings → (number another : ℕ) (ring other : List Position) → number ≢ another → slice_get rings number ≡ Some ring
    → slice_get rings another ≡ Some other → HaveNothingInCommon ring other
nothing_in_common rings none number another ring other differ there its_there = λ edge its_edge one two point here its_here on_one on_two.
    let first : RingEdge = record { ring = number; edge = edge } in
    let second : RingEdge = record { ring = another; edge = its_edge } in
    none first second point (record {
      different = λ same. differ (ap (λ (it : RingEdge). it.ring) same);
      one = one;
      one_there = record { ring = ring; there = there; here = here };
      other = two;
      other_there = record { ring = other; there = its_there; here = its_here };
      on_one = on_one;
      on_other = on_two;
      forbidden = λ vertex shared. absurd (none_in_two_rings rings first second differ vertex shared);
    })

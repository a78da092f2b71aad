-- Edges and vertices by their numbers, and the vertex that two edges share.
use Rattle.std.proofs.Common.{◌≡◌, ◌<◌, ℕ, List, length, slice_get, Some, sym, ◌∙◌, ap, arith}
use Rattle.std.proofs.lemmas.Bool.Decides.{nat_tests}
use Rattle.std.proofs.lemmas.Option.{same_Some}
use Rattle.mvt_plane.specs.Position.{Position}
use Rattle.mvt_plane.specs.Geometry.RationalPoint.{RationalPoint}
use Rattle.mvt_plane.specs.Geometry.Ring.{edges, next_round}
use Rattle.mvt_rules.specs.Meeting.{IsEdgeOf, IsShared, forward, backward, MeetsWrongly}
use Rattle.mvt_fault.specs.declared.ring.RingEdge.{RingEdge}
use Rattle.mvt_rules.specs.Nesting.{IsVertexOf}
use Rattle.mvt_plane.specs.declared.geometry.edge.Edge.{Edge}

-- a number has one edge
pub one_edge : (rings : List (List Position)) (number : RingEdge) (it other : Edge) → IsEdgeOf rings number it → IsEdgeOf rings number other → it ≡ other
one_edge rings number it other first second =
    let ring : first.ring ≡ second.ring = same_Some first.ring second.ring (sym first.there ∙ second.there) in
    same_Some it other (sym first.here ∙ ap (λ (vertices : List Position). slice_get (edges vertices) number.edge) ring ∙ second.here)

-- a vertex has one position
pub one_position : (rings : List (List Position)) (ring vertex : ℕ) (one other : Position) → IsVertexOf rings ring vertex one → IsVertexOf rings ring vertex other → one ≡ other
one_position rings ring vertex one other is_one is_other =
    let vertices : is_one.vertices ≡ is_other.vertices = same_Some is_one.vertices is_other.vertices (sym is_one.there ∙ is_other.there) in
    same_Some one other (sym is_one.here ∙ ap (λ (vertices : List Position). slice_get vertices vertex) vertices ∙ is_other.here)

-- Two edges

-- a vertex is shared either way
pub shared_either_way : (rings : List (List Position)) (first second : RingEdge) (vertex : Position) → IsShared rings first second vertex → IsShared rings second first vertex
shared_either_way rings first second vertex (forward follows) = backward follows
shared_either_way rings first second vertex (backward follows) = forward follows

-- of three vertices or more, an edge doesn't both follow another and come before it
follows_one_way : (count first second : ℕ) → 2 < count → second ≡ next_round count first → first ≡ next_round count second → ⊥
follows_one_way count first second several next before = grind (arith, nat_tests)

-- so two edges share at most one vertex
pub one_shared_vertex : (rings : List (List Position)) (first second : RingEdge) (ring : List Position) (vertex other : Position) → slice_get rings first.ring ≡ Some ring → 2 < length ring → IsShared rings first second vertex → IsShared rings first second other → vertex ≡ other
one_shared_vertex rings first second ring vertex other there several (forward follows) (forward its) =
    let one : follows.ring ≡ ring = cc in
    let same : its.ring ≡ ring = cc in
    cc
one_shared_vertex rings first second ring vertex other there several (backward follows) (backward its) =
    let one : follows.ring ≡ ring = cc in
    let same : its.ring ≡ ring = cc in
    cc
one_shared_vertex rings first second ring vertex other there several (forward follows) (backward its) =
    let one : follows.ring ≡ ring = cc in
    let same : its.ring ≡ ring = cc in
    absurd (follows_one_way (length ring) first.edge second.edge several (cc) (cc))
one_shared_vertex rings first second ring vertex other there several (backward follows) (forward its) =
    let one : follows.ring ≡ ring = cc in
    let same : its.ring ≡ ring = cc in
    absurd (follows_one_way (length ring) first.edge second.edge several (cc) (cc))

-- so is a wrong meeting
pub meets_either_way : (rings : List (List Position)) (first second : RingEdge) (point : RationalPoint) → MeetsWrongly rings first second point → MeetsWrongly rings second first point
meets_either_way rings first second point meets = record {
  different = λ same. meets.different (sym same);
  one = meets.other;
  one_there = meets.other_there;
  other = meets.one;
  other_there = meets.one_there;
  on_one = meets.on_other;
  on_other = meets.on_one;
  forbidden = λ vertex shared. meets.forbidden vertex (shared_either_way rings second first vertex shared);
}

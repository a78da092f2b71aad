-- Edges that meet where they may not (Mapbox Vector Tile Specification 2.1, section 4.3.4.4): the rings of a polygon
-- don't cross, and by this project's choice they don't touch either, not even in one vertex.
use Rattle.std.specs.Prelude.{◌≡◌, ◌≢◌, ◌<◌, ◌⊎◌, List, length, slice_get, Some}
use Rattle.mvt_fault.specs.declared.ring.RingEdge.{RingEdge}
use Rattle.mvt_plane.specs.Position.{Position}
use Rattle.mvt_plane.specs.Geometry.RationalPoint.{RationalPoint, LiesOn, IsAt}
use Rattle.mvt_plane.specs.Geometry.Ring.{edges, next_round}
use Rattle.mvt_plane.specs.declared.geometry.edge.Edge.{Edge}

-- An edge is named as in a fault, by the number of its ring and its own number in that ring (`RingEdge`).

-- the edge comes before another: by its ring, and in one ring by its own number
abbrev pub ComesBefore : RingEdge → RingEdge → Type 0
ComesBefore first second = (first.ring < second.ring) ⊎ ((first.ring ≡ second.ring) × (first.edge < second.edge))

-- the edge of this number
pub record IsEdgeOf (rings : List (List Position)) (number : RingEdge) (edge : Edge) : Type 0 where
  pub ring : List Position
  pub there : slice_get rings number.ring ≡ Some ring
  pub here : slice_get (edges ring) number.edge ≡ Some edge

-- the second edge follows the first in their ring, and this is the vertex between them
pub record Follows (rings : List (List Position)) (first second : RingEdge) (vertex : Position) : Type 0 where
  pub ring : List Position
  pub there : slice_get rings first.ring ≡ Some ring
  pub same : second.ring ≡ first.ring
  pub next : second.edge ≡ next_round (length ring) first.edge
  pub between : slice_get ring second.edge ≡ Some vertex

-- the edges are adjacent, and share this vertex; two vertices at one position don't make edges adjacent
pub data IsShared (rings : List (List Position)) (first second : RingEdge) (vertex : Position) : Type 0 where
  forward : Follows rings first second vertex → IsShared rings first second vertex
  backward : Follows rings second first vertex → IsShared rings first second vertex

-- two different edges have this rational point in common, and it isn't the vertex that they share as adjacent edges
pub record MeetsWrongly (rings : List (List Position)) (first second : RingEdge) (point : RationalPoint) : Type 0 where
  pub different : first ≢ second
  pub one : Edge
  pub one_there : IsEdgeOf rings first one
  pub other : Edge
  pub other_there : IsEdgeOf rings second other
  pub on_one : LiesOn point one
  pub on_other : LiesOn point other
  pub forbidden : (vertex : Position) → IsShared rings first second vertex → ¬ IsAt point vertex

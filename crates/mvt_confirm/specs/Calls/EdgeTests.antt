-- Edges with their numbers, and tests of edges that come one after another (Mapbox Vector Tile Specification 2.1,
-- section 4.3.4.4).
use Rattle.std.specs.Prelude.{◌≡◌, ◌↔◌, ℕ, IsTrue, List, length, slice_get, Some}
use Rattle.mvt_confirm.specs.declared.crossings.Crossings.{Crossings}
use Rattle.mvt_confirm.specs.declared.edge_tests.NumberedEdge.{NumberedEdge}
use Rattle.mvt_plane.specs.Geometry.Inside.{PassesOver, HoldsOfOdd}
use Rattle.mvt_rules.specs.Meeting.{IsEdgeOf}
use Rattle.mvt_plane.specs.Position.{Position}
use Rattle.mvt_plane.specs.Geometry.RationalPoint.{RationalPoint, IsAt}
use Rattle.mvt_plane.specs.Geometry.Ring.{next_round}
use Rattle.mvt_plane.specs.declared.geometry.edge.Edge.{Edge}

-- the two are edges of these rings by their numbers, and where they are in one ring, it has this number of vertices
pub record AreEdgesOf (rings : List (List Position)) (first second : NumberedEdge) (vertex_count : ℕ) : Type 0 where
  pub one : IsEdgeOf rings first.number first.edge
  pub other : IsEdgeOf rings second.number second.edge
  pub count : (ring : List Position) → second.number.ring ≡ first.number.ring → slice_get rings first.number.ring ≡ Some ring → length ring ≡ vertex_count

-- where the second edge follows the first in their ring, the point isn't the vertex between them
abbrev pub IsApartAfter : NumberedEdge → NumberedEdge → ℕ → RationalPoint → Type 0
IsApartAfter first second vertex_count point =
    second.number.ring ≡ first.number.ring → second.number.edge ≡ next_round vertex_count first.number.edge → ¬ IsAt point second.edge.a

-- the parity is that of those of the edges that pass over the position
abbrev pub IsParityOf : Crossings → Position → List Edge → Type 0
IsParityOf crossings position passed = IsTrue crossings.is_odd ↔ HoldsOfOdd (PassesOver position) passed

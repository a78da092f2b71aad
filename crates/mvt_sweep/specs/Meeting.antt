-- The wrong meeting of two edges that is returned for rings (Mapbox Vector Tile Specification 2.1, section 4.3.4.4).
use Rattle.std.specs.Prelude.{◌≡◌, ◌↔◌, List, Option, Some}
use Rattle.mvt_plane.specs.Geometry.CommonPoint.{IsNamed}
use Rattle.mvt_rules.specs.Meeting.{ComesBefore, IsEdgeOf, IsShared, MeetsWrongly}
use Rattle.mvt_fault.specs.declared.ring.RingEdge.{RingEdge}
use Rattle.mvt_plane.specs.Position.{Position}
use Rattle.mvt_plane.specs.Geometry.RationalPoint.{RationalPoint, IsBounded}
use Rattle.mvt_plane.specs.declared.geometry.edge.Edge.{Edge}
use Rattle.mvt_sweep.specs.declared.meeting.Meeting.{Meeting}

-- the numbers of the first edge
abbrev pub first_of : Meeting → RingEdge
first_of meeting = record { ring = meeting.first_ring; edge = meeting.first_edge }

-- the numbers of the second edge
abbrev pub second_of : Meeting → RingEdge
second_of meeting = record { ring = meeting.second_ring; edge = meeting.second_edge }

-- Two edges, in order, meet wrongly at this point. Of the points that they have in common, other than the vertex that
-- they share as neighbours, it is the one that `IsNamed` names. Its numbers are in range.
pub record IsMeetingOf (rings : List (List Position)) (meeting : Meeting) : Type 0 where
  pub in_order : ComesBefore (first_of meeting) (second_of meeting)
  pub meets : MeetsWrongly rings (first_of meeting) (second_of meeting) meeting.point
  pub bounded : IsBounded meeting.point
  pub one : Edge
  pub one_there : IsEdgeOf rings (first_of meeting) one
  pub other : Edge
  pub other_there : IsEdgeOf rings (second_of meeting) other
  pub shared : Option Position
  pub is_shared : (vertex : Position) → (shared ≡ Some vertex) ↔ IsShared rings (first_of meeting) (second_of meeting) vertex
  pub named : IsNamed shared one other (Some meeting.point)

-- no two edges of the rings meet wrongly
abbrev pub NoMeeting : List (List Position) → Type 0
NoMeeting rings = (first second : RingEdge) (point : RationalPoint) → ¬ MeetsWrongly rings first second point

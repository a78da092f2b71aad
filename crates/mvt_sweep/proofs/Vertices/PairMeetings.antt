-- What `common` returns for two edges, said of their wrong meetings.
use Rattle.std.proofs.Common.{◌≡◌, ◌↔◌, List, Option, Some}
use Rattle.mvt_plane.specs.Geometry.CommonPoint.{IsNamed}
use Rattle.mvt_rules.specs.Meeting.{ComesBefore, IsEdgeOf, IsShared}
use Rattle.mvt_fault.specs.declared.ring.RingEdge.{RingEdge}
use Rattle.mvt_plane.specs.Position.{Position}
use Rattle.mvt_plane.specs.Geometry.RationalPoint.{IsBounded}
use Rattle.mvt_plane.specs.declared.geometry.edge.Edge.{Edge}
use Rattle.mvt_plane.proofs.Points.CommonPoints.{named_is_common}
use Rattle.mvt_sweep.specs.Meeting.{first_of, second_of, IsMeetingOf}
use Rattle.mvt_sweep.specs.declared.meeting.Meeting.{Meeting}
use Rattle.mvt_sweep.proofs.Vertices.EdgeNumbers.{before_apart}

-- what two edges share is this vertex, if it is one
abbrev pub AreSharing : List (List Position) → RingEdge → RingEdge → Option Position → Type 0
AreSharing rings first second shared = (vertex : Position) → (shared ≡ Some vertex) ↔ IsShared rings first second vertex

-- edges for which a point is named meet wrongly
pub meeting_by_name : (rings : List (List Position)) (meeting : Meeting) (one other : Edge) (shared : Option Position) → ComesBefore (first_of meeting) (second_of meeting)
    → IsEdgeOf rings (first_of meeting) one → IsEdgeOf rings (second_of meeting) other → AreSharing rings (first_of meeting) (second_of meeting) shared
    → IsNamed shared one other (Some meeting.point) → IsBounded meeting.point → IsMeetingOf rings meeting
meeting_by_name rings meeting one other shared in_order is_one is_other sharing named bounded =
    let common = named_is_common shared one other meeting.point named in
    record {
      in_order = in_order;
      meets = record {
        different = before_apart (first_of meeting) (second_of meeting) in_order;
        one = one;
        one_there = is_one;
        other = other;
        other_there = is_other;
        on_one = common.on_first;
        on_other = common.on_second;
        forbidden = λ vertex is. common.apart vertex ((sharing vertex).1 is);
      };
      bounded = bounded;
      one = one;
      one_there = is_one;
      other = other;
      other_there = is_other;
      shared = shared;
      is_shared = sharing;
      named = named;
    }

-- The first fault of a polygon (Mapbox Vector Tile Specification 2.1, section 4.3.4.4).
use Rattle.std.specs.Prelude.{ℕ, ◌+◌, List, Option, Some, None}
use Rattle.mvt_rules.specs.Parts.Rings.{part_of}
use Rattle.mvt_rules.specs.Polygon.{PolygonRings}
use Rattle.mvt_plane.specs.Position.{Position}
use Rattle.mvt_sweep.specs.Meeting.{IsMeetingOf, NoMeeting}
use Rattle.mvt_polygon.specs.InFeature.{IsFirstNestFaultIn, IsMeetingIn, meeting_moved, nest_moved}
use Rattle.mvt_polygon.specs.Nesting.{IsFirstNestFault, IsNestFault}
use Rattle.mvt_sweep.specs.declared.meeting.Meeting.{Meeting as MeetingOf}
use Rattle.mvt_polygon.specs.declared.nesting.NestFault.{NestFault}
use Rattle.mvt_polygon.specs.declared.polygon.PolygonFault.{PolygonFault}
use Rattle.mvt_polygon.specs.declared.polygon.PolygonFault.TheVariants.{Meeting, Nesting}

-- the meeting that is answered, if any
abbrev pub meeting_in : Option PolygonFault → Option MeetingOf
meeting_in (Some (Meeting meeting)) = Some meeting
meeting_in (Some (Nesting fault)) = None
meeting_in None = None

-- the answer is a meeting; or, where no edges of the polygon meet wrongly, the first fault of a hole; or nothing, where there is
-- neither. Rings have their numbers in the feature.
abbrev pub IsPolygonAnswer : List (List Position) → PolygonRings → Option PolygonFault → Type 0
IsPolygonAnswer rings it (Some (Meeting meeting)) = IsMeetingIn rings it meeting
IsPolygonAnswer rings it (Some (Nesting fault)) = NoMeeting (part_of rings it) × IsFirstNestFaultIn rings it fault
IsPolygonAnswer rings it None = NoMeeting (part_of rings it) × ((fault : NestFault) → ¬ IsNestFault (part_of rings it) fault)

-- The polygon alone, with its rings numbered from 0

-- the same of these rings
abbrev pub IsAnswerAlone : List (List Position) → Option PolygonFault → Type 0
IsAnswerAlone rings (Some (Meeting meeting)) = IsMeetingOf rings meeting
IsAnswerAlone rings (Some (Nesting fault)) = NoMeeting rings × IsFirstNestFault rings fault
IsAnswerAlone rings None = NoMeeting rings × ((fault : NestFault) → ¬ IsNestFault rings fault)

-- and with the numbers of the feature, in which the polygon begins with this ring
abbrev pub fault_in_feature : ℕ → PolygonFault → PolygonFault
fault_in_feature exterior (Meeting meeting) = Meeting (meeting_moved (λ (ring : ℕ). exterior + ring) meeting)
fault_in_feature exterior (Nesting fault) = Nesting (nest_moved (λ (ring : ℕ). exterior + ring) fault)

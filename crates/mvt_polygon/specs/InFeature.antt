-- What is found among a polygon's rings alone, where these are numbered from 0, by the numbers that they have in the feature.
use Rattle.std.specs.Prelude.{◌≡◌, ◌+◌, ℕ, List}
use Rattle.mvt_rules.specs.Parts.Rings.{part_of}
use Rattle.mvt_rules.specs.Polygon.{PolygonRings}
use Rattle.mvt_plane.specs.Position.{Position}
use Rattle.mvt_sweep.specs.Meeting.{IsMeetingOf}
use Rattle.mvt_sweep.specs.declared.meeting.Meeting.{Meeting}
use Rattle.mvt_polygon.specs.Nesting.{IsFirstNestFault}
use Rattle.mvt_polygon.specs.declared.nesting.NestFault.{NestFault}
use Rattle.mvt_polygon.specs.declared.nesting.NestFault.TheVariants.{Outside, InHole}

-- the meeting, where each ring has another number
abbrev pub meeting_moved : (ℕ → ℕ) → Meeting → Meeting
meeting_moved place meeting = record meeting { first_ring = place meeting.first_ring; second_ring = place meeting.second_ring }

-- and the fault of a hole
abbrev pub nest_moved : (ℕ → ℕ) → NestFault → NestFault
nest_moved place (Outside ring vertex) = Outside (place ring) vertex
nest_moved place (InHole ring vertex other) = InHole (place ring) vertex (place other)

-- each ring that the fault of a hole names is so
abbrev pub AreNestRings : (ℕ → Type 0) → NestFault → Type 0
AreNestRings Is (Outside ring vertex) = Is ring
AreNestRings Is (InHole ring vertex other) = Is ring × Is other

-- a meeting of two edges of the polygon
pub record IsMeetingIn (rings : List (List Position)) (it : PolygonRings) (meeting : Meeting) : Type 0 where
  pub alone : Meeting
  pub is : IsMeetingOf (part_of rings it) alone
  pub moved : meeting ≡ meeting_moved (λ (ring : ℕ). it.exterior + ring) alone

-- the first fault of its holes
pub record IsFirstNestFaultIn (rings : List (List Position)) (it : PolygonRings) (fault : NestFault) : Type 0 where
  pub alone : NestFault
  pub is : IsFirstNestFault (part_of rings it) alone
  pub moved : fault ≡ nest_moved (λ (ring : ℕ). it.exterior + ring) alone

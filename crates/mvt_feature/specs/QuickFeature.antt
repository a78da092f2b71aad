-- The quick fault of a feature whose polygons are kept apart: its first fault, or any meeting of its edges (Mapbox Vector
-- Tile Specification 2.1, section 4.3.4.4).
use Rattle.std.specs.Prelude.{◌⊎◌, List, Option, Some, None}
use Rattle.mvt_rules.specs.Parts.Rings.{part_of}
use Rattle.mvt_rules.specs.Polygon.{PolygonRings, IsPolygon, IsRingOf}
use Rattle.mvt_plane.specs.Position.{Position}
use Rattle.mvt_feature.specs.Feature.{IsFeatureAnswer, IsFirstFault, front_of, rings_in}
use Rattle.mvt_sweep.specs.Meeting.{IsMeetingOf}
use Rattle.mvt_feature.specs.declared.feature.FeatureCause.{FeatureCause}
use Rattle.mvt_feature.specs.declared.feature.FeatureCause.TheVariants.{Meeting, Nesting, Apart}
use Rattle.mvt_feature.specs.declared.feature.FeatureFault.{FeatureFault}

-- an edge of the polygon, which is the second one, meets one of its own, or of the polygons before it, wrongly
abbrev pub IsMeetingCause : List (List Position) → PolygonRings → FeatureCause → Type 0
IsMeetingCause rings it (Meeting meeting) = IsMeetingOf (part_of rings (front_of it)) meeting × IsRingOf it meeting.second_ring
IsMeetingCause rings it (Nesting fault) = ⊥
IsMeetingCause rings it (Apart fault) = ⊥

-- the polygon has this fault, which is such a meeting
pub record IsAnyMeeting (rings : List (List Position)) (fault : FeatureFault) : Type 0 where
  pub there : IsPolygon rings fault.polygon (rings_in fault)
  pub is : IsMeetingCause rings (rings_in fault) fault.cause

-- the first fault of the feature, or any meeting
abbrev pub IsQuickFault : List (List Position) → FeatureFault → Type 0
IsQuickFault rings fault = IsFirstFault rings fault ⊎ IsAnyMeeting rings fault

-- the answer is a quick fault; or nothing, where no polygon has any fault
abbrev pub IsQuickAnswer : List (List Position) → Option FeatureFault → Type 0
IsQuickAnswer rings (Some fault) = IsQuickFault rings fault
IsQuickAnswer rings None = IsFeatureAnswer rings None

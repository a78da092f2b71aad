-- The first fault of a feature whose polygons are kept apart, and the work of searching for it (Mapbox Vector Tile
-- Specification 2.1, section 4.3.4.4).
use Rattle.std.specs.Prelude.{ℕ, ◌+◌, ◌*◌, ◌<◌, ◌≤◌, List, Option, Some, None, IfNone, IfSome}
use Rattle.mvt_plane.specs.Counted.{Counted, ticked}
use Rattle.mvt_rules.specs.Parts.Rings.{part_of}
use Rattle.mvt_rules.specs.Polygon.{PolygonRings, IsPolygon}
use Rattle.mvt_plane.specs.Position.{Position}
use Rattle.mvt_polygon.specs.Apart.{IsApartFault, IsFirstApartFault}
use Rattle.mvt_sweep.specs.Work.{AddsWork, vertex_count}
use Rattle.mvt_sweep.specs.Meeting.{IsMeetingOf, NoMeeting}
use Rattle.mvt_polygon.specs.InFeature.{IsFirstNestFaultIn}
use Rattle.mvt_polygon.specs.Nesting.{IsNestFault}
use Rattle.mvt_feature.specs.declared.feature.FeatureCause.{FeatureCause}
use Rattle.mvt_feature.specs.declared.feature.FeatureCause.TheVariants.{Meeting, Nesting, Apart}
use Rattle.mvt_feature.specs.declared.feature.FeatureFault.{FeatureFault}
use Rattle.mvt_polygon.specs.declared.nesting.NestFault.{NestFault}
use Rattle.mvt_status.specs.Counts.{bits, raised}

-- One polygon

-- the rings up to the polygon's last one, which no edge of it may meet
abbrev pub front_of : PolygonRings → PolygonRings
front_of it = record { exterior = 0; after = it.after }

-- its holes are where they should be, and no vertex of its exterior is inside another polygon
pub record IsPlaced (rings : List (List Position)) (polygon : ℕ) (it : PolygonRings) : Type 0 where
  pub nested : (fault : NestFault) → ¬ IsNestFault (part_of rings it) fault
  pub alone : (vertex other : ℕ) → ¬ IsApartFault rings polygon vertex other

-- none of its edges meets one of its own, or of the polygons before it, wrongly, and its rings are where they should be
pub record IsClear (rings : List (List Position)) (polygon : ℕ) (it : PolygonRings) : Type 0 where
  pub apart : NoMeeting (part_of rings (front_of it))
  pub placed : IsPlaced rings polygon it

-- the polygon has this fault, and none that comes first; rings have their numbers in the feature
abbrev pub IsFeatureCause : List (List Position) → ℕ → PolygonRings → FeatureCause → Type 0
IsFeatureCause rings polygon it (Meeting meeting) = IsMeetingOf (part_of rings (front_of it)) meeting
IsFeatureCause rings polygon it (Nesting fault) = NoMeeting (part_of rings (front_of it)) × IsFirstNestFaultIn rings it fault
IsFeatureCause rings polygon it (Apart fault) =
    NoMeeting (part_of rings (front_of it)) × ((wrong : NestFault) → ¬ IsNestFault (part_of rings it) wrong) × IsFirstApartFault rings polygon fault

-- All polygons

-- the rings of the polygon that a fault names
abbrev pub rings_in : FeatureFault → PolygonRings
rings_in fault = record { exterior = fault.exterior; after = fault.after }

-- the polygon has this fault, and those before it have none
pub record IsFirstFault (rings : List (List Position)) (fault : FeatureFault) : Type 0 where
  pub there : IsPolygon rings fault.polygon (rings_in fault)
  pub before : (polygon : ℕ) (it : PolygonRings) → polygon < fault.polygon → IsPolygon rings polygon it → IsClear rings polygon it
  pub is : IsFeatureCause rings fault.polygon (rings_in fault) fault.cause

-- the answer is the first fault; or nothing, where no polygon has one
abbrev pub IsFeatureAnswer : List (List Position) → Option FeatureFault → Type 0
IsFeatureAnswer rings (Some fault) = IsFirstFault rings fault
IsFeatureAnswer rings None = (polygon : ℕ) (it : PolygonRings) → IsPolygon rings polygon it → IsClear rings polygon it

-- The work

-- the feature has so many polygons at most
abbrev pub AreAtMost : List (List Position) → ℕ → Type 0
AreAtMost rings polygons = (polygon : ℕ) (it : PolygonRings) → IsPolygon rings polygon it → polygon < polygons

-- the work of so many sweeps over so many vertices
abbrev pub AddsSweeps : ℕ → ℕ → Counted → Counted → Type 0
AddsSweeps sweeps vertices before after =
    AddsWork (sweeps * (3 * vertices)) (sweeps * (vertices * (2 * bits vertices + 10))) (sweeps * (vertices * (20 * bits vertices))) before after

-- what is counted at least where this was found of a polygon of so many vertices: a test, where edges meet, and else so
-- many probes
abbrev pub IsCountedCause : ℕ → Counted → Counted → FeatureCause → Type 0
IsCountedCause vertices before after (Meeting meeting) = ticked before.tests ≤ after.tests
IsCountedCause vertices before after (Nesting fault) = raised vertices before.probes ≤ after.probes
IsCountedCause vertices before after (Apart fault) = raised vertices before.probes ≤ after.probes

-- and so for a fault, by the vertices of its polygon
abbrev pub IsCountedFault : List (List Position) → Counted → Counted → FeatureFault → Type 0
IsCountedFault rings before after fault = IsCountedCause (vertex_count (part_of rings (rings_in fault))) before after fault.cause

-- what is counted by the answer: where no polygon has a fault, one sweep at most, and at least a probe for each vertex
pub record IsCountedAnswer (rings : List (List Position)) (before after : Counted) (answer : Option FeatureFault) : Type 0 where
  pub valid : IfNone answer (AddsSweeps 1 (vertex_count rings) before after)
  pub least : IfNone answer (raised (vertex_count rings) before.probes ≤ after.probes)
  pub found : IfSome answer (IsCountedFault rings before after)

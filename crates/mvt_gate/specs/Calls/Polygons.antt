-- What is known of the rings of one feature while its polygons are checked one after another (Mapbox Vector Tile
-- Specification 2.1, section 4.3.4.4).
use Rattle.std.specs.Prelude.{ℕ, ◌<◌, List, Option}
use Rattle.mvt_rules.specs.Parts.Geometry.{IsFaultOfGeometryBy}
use Rattle.mvt_rules.specs.Valid.{IsValidPolygonBy}
use Rattle.mvt_fault.specs.Place.{IsLeast}
use Rattle.mvt_fault.specs.declared.fault.Fault.{Fault}
use Rattle.mvt_fault.specs.declared.fault.Fault.TheVariants as faults
use Rattle.mvt_fault.specs.declared.profile.Profile.{Profile}
use Rattle.mvt_plane.specs.FeatureGeometry.{HasRings}
use Rattle.mvt_rules.specs.Polygon.{PolygonRings, IsPolygon}
use Rattle.mvt_plane.specs.Position.{Position}
use Rattle.mvt_feature.specs.Feature.{IsFeatureAnswer}
use Rattle.mvt_feature.specs.QuickFeature.{IsQuickAnswer}
use Rattle.mvt_polygon.specs.declared.apart.ApartFault.{ApartFault}
use Rattle.mvt_feature.specs.declared.feature.FeatureCause.{FeatureCause}
use Rattle.mvt_feature.specs.declared.feature.FeatureCause.TheVariants as causes
use Rattle.mvt_feature.specs.declared.feature.FeatureFault.{FeatureFault}
use Rattle.mvt_sweep.specs.declared.meeting.Meeting.{Meeting}
use Rattle.mvt_polygon.specs.declared.polygon.PolygonFault.{PolygonFault}
use Rattle.mvt_polygon.specs.declared.polygon.PolygonFault.TheVariants as polygon_faults
use Rattle.mvt_polygon.specs.declared.nesting.NestFault.{NestFault}
use Rattle.mvt_polygon.specs.declared.nesting.NestFault.TheVariants as nest_faults
use Rattle.mvt_rules.specs.Tile.{FeatureRecord}
use Rattle.mvt_gate.specs.declared.polygons.PolygonPlace.{PolygonPlace}
use Rattle.mvt_gate.specs.declared.quick.Search.{Search}
use Rattle.mvt_gate.specs.declared.quick.Search.TheVariants.{Least, Quick}

-- of a feature that has these rings, and these ordinals, the fault is the first of its geometry, by the profile
abbrev pub IsFirstOfRings : Profile → List (List Position) → ℕ → ℕ → Fault → Type 0
IsFirstOfRings profile rings layer feature fault =
    (feature_record : FeatureRecord) → HasRings feature_record.kind feature_record.geometry rings → IsLeast (IsFaultOfGeometryBy profile feature_record layer feature) fault

-- By a search

-- the first polygon with a fault is found, or a meeting, or none where no polygon has a fault
abbrev pub IsFeatureAnswerFor : Search → List (List Position) → Option FeatureFault → Type 0
IsFeatureAnswerFor Least = IsFeatureAnswer
IsFeatureAnswerFor Quick = IsQuickAnswer

-- Polygons in turn

-- the polygons before that of this number are valid by the profile
abbrev pub AreValidBefore : Profile → List (List Position) → ℕ → Type 0
AreValidBefore profile rings polygon = (earlier : ℕ) (polygon_rings : PolygonRings) → earlier < polygon → IsPolygon rings earlier polygon_rings → IsValidPolygonBy profile rings polygon_rings

-- One polygon

-- the fault of a meeting
abbrev pub meeting_fault : PolygonPlace → Meeting → Fault
meeting_fault place meeting =
    faults.Meeting place.layer place.feature place.polygon
    (record { ring = meeting.first_ring; edge = meeting.first_edge })
    (record { ring = meeting.second_ring; edge = meeting.second_edge })
    meeting.point.x meeting.point.y meeting.point.w

-- the fault of a hole
abbrev pub hole_fault : PolygonPlace → NestFault → Fault
hole_fault place (nest_faults.Outside ring vertex) = faults.Outside place.layer place.feature place.polygon ring vertex
hole_fault place (nest_faults.InHole ring vertex other) = faults.HoleInHole place.layer place.feature place.polygon ring vertex other

-- the fault of what is wrong with a polygon by itself
abbrev pub polygon_fault : PolygonPlace → PolygonFault → Fault
polygon_fault place (polygon_faults.Meeting meeting) = meeting_fault place meeting
polygon_fault place (polygon_faults.Nesting fault) = hole_fault place fault

-- the fault of a vertex of the polygon's exterior that is inside another polygon
abbrev pub apart_fault : PolygonPlace → ApartFault → Fault
apart_fault place found = faults.InPolygon place.layer place.feature place.polygon found.vertex found.other

-- the fault of what is wrong with a polygon of a feature whose polygons are kept apart
abbrev pub cause_fault : PolygonPlace → FeatureCause → Fault
cause_fault place (causes.Meeting meeting) = meeting_fault place meeting
cause_fault place (causes.Nesting fault) = hole_fault place fault
cause_fault place (causes.Apart found) = apart_fault place found

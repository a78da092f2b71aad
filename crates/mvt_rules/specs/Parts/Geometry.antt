-- The faults of the geometry of one feature, as a judge searches for them (Mapbox Vector Tile Specification 2.1, section
-- 4.3). That they are the same as those of `Shows` is a law.
use Rattle.std.specs.Prelude.{ℕ, ℤ}
use Rattle.mvt_rules.specs.Shows.{OfRings}
use Rattle.mvt_rules.specs.PolygonFault.{IsMeetingBy, IsVertexOutside, IsVertexInHole, IsVertexInPolygonBy}
use Rattle.mvt_fault.specs.Code.{command_code, ring_code}
use Rattle.mvt_fault.specs.declared.command.CommandCode.{CommandCode}
use Rattle.mvt_fault.specs.declared.fault.Fault.{Fault}
use Rattle.mvt_fault.specs.declared.fault.Fault.TheVariants.{Command, Ring, Meeting, Outside, HoleInHole, InPolygon}
use Rattle.mvt_fault.specs.declared.profile.Profile.{Profile}
use Rattle.mvt_fault.specs.declared.ring.RingCode.{RingCode}
use Rattle.mvt_fault.specs.declared.ring.RingEdge.{RingEdge}
use Rattle.mvt_plane.specs.FeatureGeometry.{BreaksCommands}
use Rattle.mvt_rules.specs.Ring.{BreaksRings}
use Rattle.mvt_rules.specs.Tile.{FeatureRecord}

-- the feature has this fault of its geometry, which names it by its ordinals
pub data IsFaultOfGeometryBy (profile : Profile) (feature_record : FeatureRecord) (layer feature : ℕ) : Fault → Type 0 where
  command : (code : CommandCode) (index : ℕ) → BreaksCommands feature_record.kind feature_record.geometry (command_code code) index
      → IsFaultOfGeometryBy profile feature_record layer feature (Command code layer feature index)
  ring : (code : RingCode) (ring : ℕ) → OfRings feature_record (λ rings. BreaksRings rings (ring_code code) ring)
      → IsFaultOfGeometryBy profile feature_record layer feature (Ring code layer feature ring)
  meeting : (polygon : ℕ) (first second : RingEdge) (x y w : ℤ)
      → OfRings feature_record (λ rings. IsMeetingBy profile rings polygon first second (record { x = x; y = y; w = w }))
      → IsFaultOfGeometryBy profile feature_record layer feature (Meeting layer feature polygon first second x y w)
  outside : (polygon ring vertex : ℕ) → OfRings feature_record (λ rings. IsVertexOutside rings polygon ring vertex)
      → IsFaultOfGeometryBy profile feature_record layer feature (Outside layer feature polygon ring vertex)
  hole_in_hole : (polygon ring vertex other : ℕ) → OfRings feature_record (λ rings. IsVertexInHole rings polygon ring vertex other)
      → IsFaultOfGeometryBy profile feature_record layer feature (HoleInHole layer feature polygon ring vertex other)
  in_polygon : (polygon vertex other : ℕ) → OfRings feature_record (λ rings. IsVertexInPolygonBy profile rings polygon vertex other)
      → IsFaultOfGeometryBy profile feature_record layer feature (InPolygon layer feature polygon vertex other)

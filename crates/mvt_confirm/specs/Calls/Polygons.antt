-- Which polygon a ring belongs to, by a walk over the rings (Mapbox Vector Tile Specification 2.1, section 4.3.4.4).
use Rattle.std.specs.Prelude.{◌≡◌, ℕ, List}
use Rattle.mvt_confirm.specs.declared.polygons.RingPlace.{RingPlace}
use Rattle.mvt_rules.specs.Polygon.{PolygonRings, IsPolygon, IsRingOf}
use Rattle.mvt_plane.specs.Position.{Position}

-- the ring belongs to the polygon of this number, whose exterior is this one
pub record IsPlaceOf (rings : List (List Position)) (ring : ℕ) (place : RingPlace) : Type 0 where
  pub polygon_rings : PolygonRings
  pub there : IsPolygon rings place.polygon polygon_rings
  pub begins : polygon_rings.exterior ≡ place.exterior
  pub of : IsRingOf polygon_rings ring

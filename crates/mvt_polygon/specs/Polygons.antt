-- The polygons of a feature, as a list (Mapbox Vector Tile Specification 2.1, section 4.3.4.4).
use Rattle.std.specs.Prelude.{◌≡◌, ℕ, List, slice_get, Some}
use Rattle.mvt_rules.specs.Polygon.{PolygonRings, IsPolygon}
use Rattle.mvt_plane.specs.Position.{Position}

-- the polygon of each number, and no other, has its rings in the list: its first ring and the ring after its last one
pub record ArePolygons (rings : List (List Position)) (polygons : List (ℕ × ℕ)) : Type 0 where
  pub all : (polygon : ℕ) (polygon_rings : PolygonRings) → IsPolygon rings polygon polygon_rings → slice_get polygons polygon ≡ Some (polygon_rings.exterior, polygon_rings.after)
  pub only : (polygon exterior after : ℕ) → slice_get polygons polygon ≡ Some (exterior, after)
      → IsPolygon rings polygon (record { exterior = exterior; after = after })

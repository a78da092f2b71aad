-- Walks over the rings of a feature that stand at one of its polygons (Mapbox Vector Tile Specification 2.1, section 4.3.4.4).
use Rattle.std.specs.Prelude.{ℕ, suc, List, drop}
use Rattle.mvt_confirm.specs.Calls.Vertices.{VertexWalk, RingsLeft}
use Rattle.mvt_rules.specs.Polygon.{PolygonRings, IsPolygon}
use Rattle.mvt_plane.specs.Position.{Position}

-- one walk is after the exterior of the polygon of this number, and the other in front of it
pub record StandAtPolygon (rings : List (List Position)) (polygon : ℕ) (ahead vertices : VertexWalk) : Type 0 where
  pub polygon_rings : PolygonRings
  pub there : IsPolygon rings polygon polygon_rings
  pub following : RingsLeft ahead (drop (suc polygon_rings.exterior) rings)
  pub in_front : RingsLeft vertices (drop polygon_rings.exterior rings)

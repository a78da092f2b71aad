-- Rings that aren't where they should be: each vertex of a hole is inside the exterior of its polygon, and inside no
-- other hole of it (Mapbox Vector Tile Specification 2.1, section 4.3.4.4); and where the polygons of a feature are kept
-- apart, no vertex of an exterior is inside another polygon.
use Rattle.std.specs.Prelude.{◌≡◌, ◌≢◌, ℕ, List, slice_get, Some}
use Rattle.mvt_plane.specs.Geometry.Inside.{IsInside}
use Rattle.mvt_rules.specs.Polygon.{PolygonRings, IsHoleOf}
use Rattle.mvt_plane.specs.Position.{Position}

-- the position of a vertex, by the number of its ring and its own number in that ring
pub record IsVertexOf (rings : List (List Position)) (ring vertex : ℕ) (position : Position) : Type 0 where
  pub vertices : List Position
  pub there : slice_get rings ring ≡ Some vertices
  pub here : slice_get vertices vertex ≡ Some position

-- the vertex of a hole isn't inside the exterior
pub record IsOutside (rings : List (List Position)) (polygon_rings : PolygonRings) (ring vertex : ℕ) : Type 0 where
  pub hole : IsHoleOf polygon_rings ring
  pub position : Position
  pub here : IsVertexOf rings ring vertex position
  pub exterior : List Position
  pub there : slice_get rings polygon_rings.exterior ≡ Some exterior
  pub outside : ¬ IsInside position exterior

-- the vertex of a hole is inside another hole
pub record IsInHole (rings : List (List Position)) (polygon_rings : PolygonRings) (ring vertex other : ℕ) : Type 0 where
  pub hole : IsHoleOf polygon_rings ring
  pub position : Position
  pub here : IsVertexOf rings ring vertex position
  pub other_hole : IsHoleOf polygon_rings other
  pub different : other ≢ ring
  pub around : List Position
  pub there : slice_get rings other ≡ Some around
  pub inside : IsInside position around

-- the position is inside a hole of the polygon
pub record IsInHoles (rings : List (List Position)) (polygon_rings : PolygonRings) (position : Position) : Type 0 where
  pub hole : ℕ
  pub is : IsHoleOf polygon_rings hole
  pub vertices : List Position
  pub there : slice_get rings hole ≡ Some vertices
  pub inside : IsInside position vertices

-- the position is inside the polygon: inside its exterior, and inside none of its holes
pub record IsInsidePolygon (rings : List (List Position)) (polygon_rings : PolygonRings) (position : Position) : Type 0 where
  pub around : List Position
  pub there : slice_get rings polygon_rings.exterior ≡ Some around
  pub inside : IsInside position around
  pub in_no_hole : ¬ IsInHoles rings polygon_rings position

-- the vertex of the polygon's exterior is inside another polygon
pub record IsInPolygon (rings : List (List Position)) (polygon_rings other_rings : PolygonRings) (vertex : ℕ) : Type 0 where
  pub position : Position
  pub here : IsVertexOf rings polygon_rings.exterior vertex position
  pub different : other_rings.exterior ≢ polygon_rings.exterior
  pub inside : IsInsidePolygon rings other_rings position

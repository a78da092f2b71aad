-- Which fault is returned where a polygon of a feature isn't apart from the others: a vertex of its exterior is inside
-- another polygon.
use Rattle.std.specs.Prelude.{◌≡◌, ◌<◌, ◌≤◌, ◌⊎◌, ℕ, List, ◌≢◌}
use Rattle.mvt_rules.specs.Nesting.{IsInsidePolygon, IsInPolygon}
use Rattle.mvt_rules.specs.Polygon.{PolygonRings, IsPolygon}
use Rattle.mvt_plane.specs.Position.{Position}
use Rattle.mvt_polygon.specs.declared.apart.ApartFault.{ApartFault}

-- the vertex of the exterior of the polygon of this number is inside the polygon of the other number
pub record IsApartFault (rings : List (List Position)) (polygon vertex other : ℕ) : Type 0 where
  pub polygon_rings : PolygonRings
  pub there : IsPolygon rings polygon polygon_rings
  pub other_rings : PolygonRings
  pub other_there : IsPolygon rings other other_rings
  pub inside : IsInPolygon rings polygon_rings other_rings vertex

-- the first of all such faults of the polygon, by the vertex and then by the other polygon
pub record IsFirstApartFault (rings : List (List Position)) (polygon : ℕ) (fault : ApartFault) : Type 0 where
  pub holds : IsApartFault rings polygon fault.vertex fault.other
  pub first : (vertex other : ℕ) → IsApartFault rings polygon vertex other
      → (fault.vertex < vertex) ⊎ ((fault.vertex ≡ vertex) × (fault.other ≤ other))

-- Polygons around a position

-- the position is inside this other polygon
pub record IsPolygonAround (rings : List (List Position)) (polygon : ℕ) (position : Position) (other : ℕ) : Type 0 where
  pub different : other ≢ polygon
  pub other_rings : PolygonRings
  pub there : IsPolygon rings other other_rings
  pub inside : IsInsidePolygon rings other_rings position

-- this other polygon is the first one that the position is inside
pub record IsFirstPolygonAround (rings : List (List Position)) (polygon : ℕ) (position : Position) (other : ℕ) : Type 0 where
  pub around : IsPolygonAround rings polygon position other
  pub first : (another : ℕ) → IsPolygonAround rings polygon position another → other ≤ another

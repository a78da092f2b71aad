-- What is wrong with the polygons of a feature, by the numbers that faults name (Mapbox Vector Tile Specification 2.1,
-- section 4.3.4.4). Faults of polygons occur only where no ring has a fault of its own.
use Rattle.std.specs.Prelude.{ℕ, List}
use Rattle.mvt_rules.specs.Profiles.{IsInPolygonBy, IsKeptApart}
use Rattle.mvt_fault.specs.declared.profile.Profile.{Profile}
use Rattle.mvt_fault.specs.declared.ring.RingEdge.{RingEdge}
use Rattle.mvt_rules.specs.Meeting.{ComesBefore, MeetsWrongly}
use Rattle.mvt_rules.specs.Nesting.{IsOutside, IsInHole}
use Rattle.mvt_rules.specs.Polygon.{PolygonRings, IsPolygon, IsRingOf}
use Rattle.mvt_plane.specs.Position.{Position}
use Rattle.mvt_plane.specs.Geometry.RationalPoint.{RationalPoint, IsBounded}
use Rattle.mvt_rules.specs.Ring.{ArePolygonRings}

-- the polygon of this number in a feature, where no ring has a fault of its own
pub record IsPolygonOf (rings : List (List Position)) (polygon : ℕ) (polygon_rings : PolygonRings) : Type 0 where
  pub sound : ArePolygonRings rings
  pub there : IsPolygon rings polygon polygon_rings

-- two edges that the profile keeps apart, in order, meet wrongly at this point, whose numbers are in range; the second is of
-- the polygon
pub record IsMeetingBy (profile : Profile) (rings : List (List Position)) (polygon : ℕ) (first second : RingEdge) (point : RationalPoint) : Type 0 where
  pub polygon_rings : PolygonRings
  pub of : IsPolygonOf rings polygon polygon_rings
  pub first_in : IsKeptApart profile polygon_rings first.ring
  pub second_in : IsRingOf polygon_rings second.ring
  pub in_order : ComesBefore first second
  pub bounded : IsBounded point
  pub meets : MeetsWrongly rings first second point

-- the vertex of a hole of the polygon isn't inside its exterior
pub record IsVertexOutside (rings : List (List Position)) (polygon ring vertex : ℕ) : Type 0 where
  pub polygon_rings : PolygonRings
  pub of : IsPolygonOf rings polygon polygon_rings
  pub outside : IsOutside rings polygon_rings ring vertex

-- the vertex of a hole of the polygon is inside another one
pub record IsVertexInHole (rings : List (List Position)) (polygon ring vertex other : ℕ) : Type 0 where
  pub polygon_rings : PolygonRings
  pub of : IsPolygonOf rings polygon polygon_rings
  pub inside : IsInHole rings polygon_rings ring vertex other

-- the vertex of the polygon's exterior is inside another polygon, and the profile keeps them apart
pub record IsVertexInPolygonBy (profile : Profile) (rings : List (List Position)) (polygon vertex other : ℕ) : Type 0 where
  pub polygon_rings : PolygonRings
  pub of : IsPolygonOf rings polygon polygon_rings
  pub other_rings : PolygonRings
  pub other_there : IsPolygon rings other other_rings
  pub inside : IsInPolygonBy profile rings polygon_rings other_rings vertex

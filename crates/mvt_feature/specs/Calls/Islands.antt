-- Polygons in a hole of another polygon of their feature: they are apart from it, where no edges of that one meet
-- (Mapbox Vector Tile Specification 2.1, section 4.3.4.4).
use Rattle.std.specs.Prelude.{◌≡◌, ◌≢◌, ℕ, suc, ◌<◌, ◌⊎◌, Bool, false, List, length, slice_get, slice_index_or, Some, pos}
use Rattle.std.specs.Ordering.{int_cmp}
use Rattle.std.specs.declared.cmp.Ordering.{Ordering}
use Rattle.std.specs.declared.cmp.Ordering.TheVariants.{Equal}
use Rattle.mvt_plane.specs.Geometry.Apart.{HaveNothingInCommon}
use Rattle.mvt_plane.specs.Geometry.Inside.{IsInside}
use Rattle.mvt_plane.specs.Geometry.Measure.{orientation}
use Rattle.mvt_rules.specs.Nesting.{IsVertexOf}
use Rattle.mvt_rules.specs.Polygon.{PolygonRings, IsHoleOf}
use Rattle.mvt_plane.specs.Position.{Position}
use Rattle.mvt_plane.specs.Geometry.RationalPoint.{RationalPoint, LiesOn}
use Rattle.mvt_plane.specs.Geometry.Ring.{edges}
use Rattle.mvt_plane.specs.declared.geometry.edge.Edge.{Edge}
use Rattle.mvt_sweep.specs.Bounds.{AreBoundsOf, AreBoundsApart}
use Rattle.mvt_feature.specs.Calls.Bounds.{AreFarApart}
use Rattle.mvt_feature.specs.Calls.FeatureParts.{listed_at}
use Rattle.mvt_sweep.specs.declared.bounds.Bounds.{Bounds}

-- Two rings

-- the ring lies in the other one: they have nothing in common, and its vertices are inside
pub record LiesInRing (ring around : List Position) : Type 0 where
  pub clear : HaveNothingInCommon ring around
  pub inside : (number : ℕ) (vertex : Position) → slice_get ring number ≡ Some vertex → IsInside vertex around

-- all vertices of the ring are on one side of the line through the edge, and none is on it
pub record AreBesideEdge (ring : List Position) (edge : Edge) : Type 0 where
  pub side : Ordering
  pub strictly : ¬ (side ≡ Equal)
  pub each : (number : ℕ) (vertex : Position) → slice_get ring number ≡ Some vertex → side ≡ int_cmp (orientation edge.a edge.b vertex) (pos 0)

-- no edge of the ring has a point in common with this edge
abbrev pub IsClearOfEdge : List Position → Edge → Type 0
IsClearOfEdge ring edge = (number : ℕ) (one : Edge) (point : RationalPoint) → slice_get (edges ring) number ≡ Some one → LiesOn point one → ¬ LiesOn point edge

-- the edges of the other ring before this number have nothing in common with the ring
abbrev pub AreClearBefore : List Position → List Position → ℕ → Type 0
AreClearBefore ring around to = (number : ℕ) → number < to → (edge : Edge) → slice_get (edges around) number ≡ Some edge → IsClearOfEdge ring edge

-- the rings have bounds that are apart
pub record AreRingsFarApart (ring other : List Position) : Type 0 where
  pub its : Bounds
  pub others : Bounds
  pub of_it : AreBoundsOf ring its
  pub of_other : AreBoundsOf other others
  pub apart : AreBoundsApart its others

-- Two polygons

-- the polygon is one ring, which lies in a hole of the other polygon, far from its other holes; and its exterior has a
-- vertex beyond both
pub record IsIslandOf (rings : List (List Position)) (it its : PolygonRings) : Type 0 where
  pub single : it.after ≡ suc it.exterior
  pub ring : List Position
  pub there : slice_get rings it.exterior ≡ Some ring
  pub hole : ℕ
  pub is : IsHoleOf its hole
  pub around : List Position
  pub hole_there : slice_get rings hole ≡ Some around
  pub within : LiesInRing ring around
  pub far : (other : ℕ) (vertices : List Position) → IsHoleOf its other → other ≢ hole → slice_get rings other ≡ Some vertices → AreRingsFarApart ring vertices
  pub vertex : ℕ
  pub position : Position
  pub beyond : IsVertexOf rings its.exterior vertex position
  pub not_in_hole : ¬ IsInside position around
  pub not_in_ring : ¬ IsInside position ring

-- the one lies in a hole of the other
abbrev pub AreApartByHole : List (List Position) → PolygonRings → PolygonRings → Type 0
AreApartByHole rings it its = IsIslandOf rings it its ⊎ IsIslandOf rings its it

-- All polygons

-- a polygon that isn't marked has bounds that are apart from those of each other one; or neither is marked, and the one
-- lies in a hole of the other
pub record AreMarked (rings : List (List Position)) (polygons : List (ℕ × ℕ)) (marks : List Bool) : Type 0 where
  pub count : length marks ≡ length polygons
  pub apart : (polygon other : ℕ) → polygon < length polygons → other < length polygons → polygon ≢ other → slice_index_or marks polygon false ≡ false
      → AreFarApart rings (listed_at polygons polygon) (listed_at polygons other)
      ⊎ ((slice_index_or marks other false ≡ false) × AreApartByHole rings (listed_at polygons polygon) (listed_at polygons other))

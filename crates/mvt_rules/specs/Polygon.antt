-- The polygons that the rings of a feature are (Mapbox Vector Tile Specification 2.1, section 4.3.4.4). They are
-- distinguished only where the rings have no fault of their own (`ArePolygonRings`).
use Rattle.std.specs.Prelude.{◌≡◌, ℕ, zero, suc, ◌<◌, ◌≤◌, ◌⊎◌, List, length, slice_get, Some, pos, ◌<ℤ◌}
use Rattle.mvt_plane.specs.Position.{Position}
use Rattle.mvt_plane.specs.Geometry.Ring.{doubled_area}

-- the ring of this number has positive area: it is an exterior, and begins a polygon
pub record IsExterior (rings : List (List Position)) (number : ℕ) : Type 0 where
  pub ring : List Position
  pub there : slice_get rings number ≡ Some ring
  pub positive : pos 0 <ℤ doubled_area ring

-- no ring from one number up to another is an exterior
abbrev pub NoExterior : List (List Position) → ℕ → ℕ → Type 0
NoExterior rings from to = (number : ℕ) → from ≤ number → number < to → ¬ IsExterior rings number

-- the exterior of each polygon; polygons are numbered from 0
pub data IsExteriorOf (rings : List (List Position)) : ℕ → ℕ → Type 0 where
  first : (exterior : ℕ) → IsExterior rings exterior → NoExterior rings 0 exterior → IsExteriorOf rings zero exterior
  next : (polygon before exterior : ℕ) → IsExteriorOf rings polygon before → before < exterior → IsExterior rings exterior
      → NoExterior rings (suc before) exterior → IsExteriorOf rings (suc polygon) exterior

-- the rings of a polygon by their numbers in the feature: its exterior, and its holes up to the ring after the last
-- one
pub record PolygonRings : Type 0 where
  pub exterior : ℕ
  pub after : ℕ

-- the polygon of this number: an exterior with the rings up to the next exterior, or to the last ring
pub record IsPolygon (rings : List (List Position)) (polygon : ℕ) (polygon_rings : PolygonRings) : Type 0 where
  pub begins : IsExteriorOf rings polygon polygon_rings.exterior
  pub further : polygon_rings.exterior < polygon_rings.after
  pub holes : NoExterior rings (suc polygon_rings.exterior) polygon_rings.after
  pub ends : (polygon_rings.after ≡ length rings) ⊎ IsExterior rings polygon_rings.after

-- the ring belongs to the polygon
pub record IsRingOf (polygon_rings : PolygonRings) (ring : ℕ) : Type 0 where
  pub from : polygon_rings.exterior ≤ ring
  pub before : ring < polygon_rings.after

-- and is one of its holes
pub record IsHoleOf (polygon_rings : PolygonRings) (ring : ℕ) : Type 0 where
  pub following : polygon_rings.exterior < ring
  pub before : ring < polygon_rings.after

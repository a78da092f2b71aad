-- Polygons that were judged one by one.
use Rattle.std.specs.Prelude.{◌≡◌, ◌<◌, ◌≤◌, ℕ, Bool, false, IsTrue, List, length, slice_get, Some, Vec}
use Rattle.std.specs.declared.alloc.Global.{Global}
use Rattle.mvt_rules.specs.Parts.ByPolygon.{AreValidRings}
use Rattle.mvt_mend.specs.Kept.{IsRightPolygon}
use Rattle.mvt_rules.specs.Parts.Rings.{part_of}
use Rattle.mvt_rules.specs.Polygon.{PolygonRings, IsPolygon}
use Rattle.mvt_plane.specs.Position.{Position}
use Rattle.mvt_polygon.specs.Polygons.{ArePolygons}
use Rattle.mvt_sweep.specs.Rings.{rings_of, AreProperRings}

-- the rings can be spelled, and are those of valid polygons
pub record AreRightRings (rings : List (List Position)) : Type 0 where
  pub proper : AreProperRings rings
  pub valid : AreValidRings rings

-- it is true of the rings of one polygon, as the code has them, where they are right
abbrev pub IsRightMark : List (Vec Position Global) → Bool → Type 0
IsRightMark rings right = IsPolygon (rings_of rings) 0 (record { exterior = 0; after = length rings }) → AreRightRings (rings_of rings) → IsTrue right

-- all polygons of the rings are listed, and no right one is marked as wrong
pub record AreJudged (rings : List (List Position)) (polygons : List (ℕ × ℕ)) (right : List Bool) : Type 0 where
  pub listed : ArePolygons rings polygons
  pub as_many : length right ≡ length polygons
  pub wrong : (polygon : ℕ) (polygon_rings : PolygonRings) → slice_get right polygon ≡ Some false → ¬ IsRightPolygon rings polygon polygon_rings

-- a polygon from a number on has these rings
pub record IsFoundFrom (rings new : List (List Position)) (polygons : List (ℕ × ℕ)) (from place : ℕ) : Type 0 where
  pub following : from ≤ place
  pub within : place < length polygons
  pub polygon_rings : PolygonRings
  pub there : IsPolygon new place polygon_rings
  pub same : part_of new polygon_rings ≡ rings

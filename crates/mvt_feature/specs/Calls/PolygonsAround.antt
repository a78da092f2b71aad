-- Which rings of a feature are around which by what is noted of each, and which rings are within a polygon.
use Rattle.std.specs.Prelude.{◌≡◌, ◌⊎◌, ◌↔◌, ℕ, ◌<◌, Bool, false, not, List, length, slice_get, Option, Some, None}
use Rattle.mvt_rules.specs.Polygon.{PolygonRings, IsHoleOf}
use Rattle.mvt_plane.specs.Position.{Position}
use Rattle.mvt_sweep.specs.RingsAround.{IsAround}

-- The ring directly around each is noted: all others around it are around that one too. The rings were come to in an
-- order in which each is after the one directly around it.
pub record AreNotedBy (rings : List (List Position)) (nearest : ℕ → Option ℕ) (odd : ℕ → Bool) (come_to : List ℕ) : Type 0 where
  pub alone : (ring : ℕ) → ring < length rings → nearest ring ≡ None → (outer : ℕ) → ¬ IsAround rings outer ring
  pub even : (ring : ℕ) → ring < length rings → nearest ring ≡ None → odd ring ≡ false
  pub known : (ring near : ℕ) → ring < length rings → nearest ring ≡ Some near → near < length rings
  pub around : (ring near : ℕ) → ring < length rings → nearest ring ≡ Some near → (outer : ℕ) → IsAround rings outer ring ↔ ((outer ≡ near) ⊎ IsAround rings outer near)
  pub turned : (ring near : ℕ) → ring < length rings → nearest ring ≡ Some near → odd ring ≡ not (odd near)
  pub listed : (ring : ℕ) → ring < length rings → (at : ℕ) × (slice_get come_to at ≡ Some ring)
  pub only : (at ring : ℕ) → slice_get come_to at ≡ Some ring → ring < length rings
  pub following : (at ring near : ℕ) → slice_get come_to at ≡ Some ring → nearest ring ≡ Some near → (before : ℕ) × (before < at) × (slice_get come_to before ≡ Some near)

-- Polygons around rings

-- the ring is within the polygon: its exterior is around it, and no hole of it is
pub record IsWithinPolygon (rings : List (List Position)) (its : PolygonRings) (ring : ℕ) : Type 0 where
  pub exterior : IsAround rings its.exterior ring
  pub in_no_hole : (hole : ℕ) → IsHoleOf its hole → ¬ IsAround rings hole ring

-- the way into a ring leads into its polygon: it is the exterior, and no hole of the polygon is around it
pub record EntersPolygon (rings : List (List Position)) (its : PolygonRings) (ring : ℕ) : Type 0 where
  pub exterior : its.exterior ≡ ring
  pub in_no_hole : (hole : ℕ) → IsHoleOf its hole → ¬ IsAround rings hole ring

-- it leads out of its polygon: it is a hole, the exterior is around it, and no other hole is
pub record LeavesPolygon (rings : List (List Position)) (its : PolygonRings) (ring : ℕ) : Type 0 where
  pub hole : IsHoleOf its ring
  pub enclosed : IsAround rings its.exterior ring
  pub alone : (other : ℕ) → IsHoleOf its other → ¬ IsAround rings other ring

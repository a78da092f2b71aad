-- What keeps the rings of a feature from being those of polygons (Mapbox Vector Tile Specification 2.1, section 4.3.4.4).
use Rattle.std.specs.Prelude.{◌≡◌, ℕ, ◌-◌, List, length, slice_get, Some, pos, ◌<ℤ◌}
use Rattle.mvt_plane.specs.Position.{Position}
use Rattle.mvt_plane.specs.Geometry.Ring.{doubled_area}

-- the last position of the ring of this number is its first one, to which ClosePath leads anyway
pub record EndsAtItsBeginning (rings : List (List Position)) (number : ℕ) : Type 0 where
  pub ring : List Position
  pub there : slice_get rings number ≡ Some ring
  pub position : Position
  pub first : slice_get ring 0 ≡ Some position
  pub last : slice_get ring (length ring - 1) ≡ Some position

-- the ring of this number has no area
pub record HasNoArea (rings : List (List Position)) (number : ℕ) : Type 0 where
  pub ring : List Position
  pub there : slice_get rings number ≡ Some ring
  pub none : doubled_area ring ≡ pos 0

-- the ring of this number is the first of the feature, and is a hole
pub record BeginsWithHole (rings : List (List Position)) (number : ℕ) : Type 0 where
  pub first : number ≡ 0
  pub ring : List Position
  pub there : slice_get rings number ≡ Some ring
  pub negative : doubled_area ring <ℤ pos 0

-- the ring of this number has the fault of this code
pub data BreaksRings (rings : List (List Position)) (code ring : ℕ) : Type 0 where
  ends_at_its_beginning : code ≡ 501 → EndsAtItsBeginning rings ring → BreaksRings rings code ring
  no_area : code ≡ 502 → HasNoArea rings ring → BreaksRings rings code ring
  begins_with_hole : code ≡ 503 → BeginsWithHole rings ring → BreaksRings rings code ring

-- no ring has any of these faults
pub record ArePolygonRings (rings : List (List Position)) : Type 0 where
  pub open_ends : (number : ℕ) → ¬ EndsAtItsBeginning rings number
  pub areas : (number : ℕ) → ¬ HasNoArea rings number
  pub exterior_first : (number : ℕ) → ¬ BeginsWithHole rings number

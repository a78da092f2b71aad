-- The rings that lists of vertices are (Mapbox Vector Tile Specification 2.1, section 4.3.4.4).
use Rattle.std.specs.Prelude.{◌≡◌, ◌≢◌, ◌≤◌, ℕ, List, length, map, slice_get, Some, Vec}
use Rattle.std.specs.declared.alloc.Global.{Global}
use Rattle.mvt_plane.specs.Position.{Position, IsPosition}
use Rattle.mvt_plane.specs.Geometry.Ring.{next_round}

-- the rings of these lists of vertices
abbrev pub rings_of : List (Vec Position Global) → List (List Position)
rings_of rings = map (λ ring. ring.items) rings

-- each ring has three vertices or more, and none is at the position of the next one
pub record AreProperRings (rings : List (List Position)) : Type 0 where
  pub several : (number : ℕ) (ring : List Position) → slice_get rings number ≡ Some ring → 3 ≤ length ring
  pub apart : (number vertex : ℕ) (ring : List Position) (position next : Position) → slice_get rings number ≡ Some ring
      → slice_get ring vertex ≡ Some position → slice_get ring (next_round (length ring) vertex) ≡ Some next → position ≢ next

-- all vertices are in range
abbrev pub AreRingsInRange : List (List Position) → Type 0
AreRingsInRange rings = (number vertex : ℕ) (ring : List Position) (position : Position) → slice_get rings number ≡ Some ring → slice_get ring vertex ≡ Some position → IsPosition position

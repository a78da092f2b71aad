-- Which faults are of one hole, and which holes are around a vertex.
use Rattle.std.specs.Prelude.{◌≡◌, ◌≢◌, ℕ, ◌<◌, ◌≤◌, List, slice_get, Some}
use Rattle.mvt_plane.specs.Geometry.Inside.{IsInside}
use Rattle.mvt_plane.specs.Position.{Position}
use Rattle.mvt_polygon.specs.declared.nesting.NestFault.{NestFault}
use Rattle.mvt_polygon.specs.declared.nesting.NestFault.TheVariants.{Outside, InHole}

-- the fault is one of this hole
abbrev pub IsOfHole : ℕ → NestFault → Type 0
IsOfHole hole (Outside ring vertex) = ring ≡ hole
IsOfHole hole (InHole ring vertex other) = ring ≡ hole

-- the position of a hole's vertex is inside this other hole
pub record IsHoleAround (rings : List (List Position)) (ring : ℕ) (position : Position) (other : ℕ) : Type 0 where
  pub hole : 0 < other
  pub different : other ≢ ring
  pub around : List Position
  pub there : slice_get rings other ≡ Some around
  pub inside : IsInside position around

-- this other hole is the first one that the position is inside
pub record IsFirstHoleAround (rings : List (List Position)) (ring : ℕ) (position : Position) (other : ℕ) : Type 0 where
  pub around : IsHoleAround rings ring position other
  pub first : (another : ℕ) → IsHoleAround rings ring position another → other ≤ another

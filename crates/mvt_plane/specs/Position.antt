-- Positions in the coordinates of a tile (Mapbox Vector Tile Specification 2.1, section 4.3).
use Rattle.std.specs.Prelude.{◌^◌, ℤ, pos, neg_ℤ, ◌≤ℤ◌}

-- a position
pub record Position : Type 0 where
  pub x : ℤ
  pub y : ℤ

-- where the cursor of a feature begins
abbrev pub origin : Position
origin = record { x = pos 0; y = pos 0 }

-- the coordinates that are kept to: from -2^30 to 2^30
abbrev pub IsCoordinate : ℤ → Type 0
IsCoordinate z = (neg_ℤ (pos (2 ^ 30)) ≤ℤ z) × (z ≤ℤ pos (2 ^ 30))

-- both coordinates are in that range
pub record IsPosition (position : Position) : Type 0 where
  pub x : IsCoordinate position.x
  pub y : IsCoordinate position.y

-- How far a pass over the numbers of a geometry may have come from the origin, of which only the sum of their parameters is known.
use Rattle.std.specs.Prelude.{◌≡◌, ℕ, ◌^◌, ◌≤◌, List, ◌∷◌, drop, ℤ, pos, neg_ℤ, ◌≤ℤ◌}
use Rattle.mvt_plane.specs.Calls.Reading.{StandsAt}
use Rattle.mvt_plane.specs.Commands.Drawing.{State}
use Rattle.mvt_plane.specs.Commands.Figure.{GeometryType}
use Rattle.mvt_plane.specs.Position.{Position}

-- the coordinate is at most so far from 0
abbrev pub IsNear : ℕ → ℤ → Type 0
IsNear reach z = (neg_ℤ (pos reach) ≤ℤ z) × (z ≤ℤ pos reach)

-- all numbers before an index are allowed, and lead to this state at a position that is at most so far from the origin
pub record StandsWithin (geometry_type : GeometryType) (numbers : List ℕ) (index reach : ℕ) (state : Position → State) : Type 0 where
  pub position : Position
  pub x : IsNear reach position.x
  pub y : IsNear reach position.y
  pub stands : StandsAt geometry_type numbers index (state position)

-- this number was read in front of those that are left
abbrev pub Follows : ℕ → (List ℕ → Type 0) → List ℕ → Type 0
Follows first Leaves numbers = (rest : List ℕ) × (numbers ≡ first ∷ rest) × Leaves rest

-- numbers are left from some index on, where a reader stands if the sum of the parameters before it is in the range
pub record Reaches (geometry_type : GeometryType) (numbers : List ℕ) (Leaves : List ℕ → Type 0) (reach : ℕ) (state : Position → State) : Type 0 where
  pub index : ℕ
  pub left : Leaves (drop index numbers)
  pub stands : reach ≤ 2 ^ 30 → StandsWithin geometry_type numbers index reach state

-- Rational points of the plane, and which of them lie on an edge (Mapbox Vector Tile Specification 2.1, section
-- 4.3.4.4).
use Rattle.std.specs.Prelude.{◌≡◌, ◌^◌, ◌⊎◌, ℤ, pos, neg_ℤ, ◌-ℤ◌, ◌*ℤ◌, ◌≤ℤ◌}
use Rattle.mvt_plane.specs.Position.{Position}
use Rattle.mvt_plane.specs.declared.geometry.edge.Edge.{Edge}

-- a rational point in homogeneous coordinates: (x / w, y / w)
pub record RationalPoint : Type 0 where
  pub x : ℤ
  pub y : ℤ
  pub w : ℤ

-- a position as a rational point
abbrev pub whole : Position → RationalPoint
whole position = record { x = position.x; y = position.y; w = pos 1 }

-- the rational point is this position
pub record IsAt (point : RationalPoint) (position : Position) : Type 0 where
  pub x : point.x ≡ position.x *ℤ point.w
  pub y : point.y ≡ position.y *ℤ point.w

-- from one number to another, in whichever order they are, with both of them
abbrev pub IsBetween : ℤ → ℤ → ℤ → Type 0
IsBetween from to z = ((from ≤ℤ z) × (z ≤ℤ to)) ⊎ ((to ≤ℤ z) × (z ≤ℤ from))

-- the rational point is on the line of the edge, and both of its coordinates are between those of the edge's ends
pub record LiesOn (point : RationalPoint) (edge : Edge) : Type 0 where
  pub positive : pos 1 ≤ℤ point.w
  pub on_line : (edge.b.x -ℤ edge.a.x) *ℤ (point.y -ℤ edge.a.y *ℤ point.w) ≡ (edge.b.y -ℤ edge.a.y) *ℤ (point.x -ℤ edge.a.x *ℤ point.w)
  pub x_between : IsBetween (edge.a.x *ℤ point.w) (edge.b.x *ℤ point.w) point.x
  pub y_between : IsBetween (edge.a.y *ℤ point.w) (edge.b.y *ℤ point.w) point.y

-- the range in which rational points are named: w from 1 to 2^63, x and y from -2^93 to 2^93
pub record IsBounded (point : RationalPoint) : Type 0 where
  pub positive : pos 1 ≤ℤ point.w
  pub w : point.w ≤ℤ pos (2 ^ 63)
  pub x : (neg_ℤ (pos (2 ^ 93)) ≤ℤ point.x) × (point.x ≤ℤ pos (2 ^ 93))
  pub y : (neg_ℤ (pos (2 ^ 93)) ≤ℤ point.y) × (point.y ≤ℤ pos (2 ^ 93))

-- The least and the greatest coordinates of rings.
use Rattle.std.specs.Prelude.{◌≡◌, ℕ, List, slice_get, Some, ◌≤ℤ◌}
use Rattle.mvt_rules.specs.Polygon.{PolygonRings, IsRingOf}
use Rattle.mvt_plane.specs.Position.{Position}
use Rattle.mvt_sweep.specs.declared.bounds.Bounds.{Bounds}

-- the position is within the bounds
pub record IsInBounds (bounds : Bounds) (position : Position) : Type 0 where
  pub left : bounds.left ≤ℤ position.x
  pub right : position.x ≤ℤ bounds.right
  pub low : bounds.low ≤ℤ position.y
  pub high : position.y ≤ℤ bounds.high

-- all vertices of the ring are within the bounds
abbrev pub AreBoundsOf : List Position → Bounds → Type 0
AreBoundsOf ring bounds = (number : ℕ) (vertex : Position) → slice_get ring number ≡ Some vertex → IsInBounds bounds vertex

-- no position is within both
abbrev pub AreBoundsApart : Bounds → Bounds → Type 0
AreBoundsApart one other = (position : Position) → IsInBounds one position → ¬ IsInBounds other position

-- all vertices of the polygon's rings are within the bounds
abbrev pub AreBoundsOfPolygon : List (List Position) → PolygonRings → Bounds → Type 0
AreBoundsOfPolygon rings it bounds = (ring : ℕ) (vertices : List Position) → IsRingOf it ring → slice_get rings ring ≡ Some vertices → AreBoundsOf vertices bounds

-- Rings that end where they begin.
use Rattle.std.specs.Prelude.{◌≡◌, ◌-◌, List, length, slice_get, Some}
use Rattle.mvt_plane.specs.Position.{Position}

-- the last vertex of a ring is at the position of its first one
pub record IsClosed (ring : List Position) : Type 0 where
  pub position : Position
  pub first : slice_get ring 0 ≡ Some position
  pub last : slice_get ring (length ring - 1) ≡ Some position

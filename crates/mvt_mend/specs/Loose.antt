-- Rings that numbers draw loosely: they are spelled as those of polygons are (Mapbox Vector Tile Specification 2.1,
-- section 4.3), but a ring may have one position or two, and a step may have no length.
use Rattle.std.specs.Prelude.{◌≡◌, ◌≤◌, ℕ, List, length, slice_get, Some}
use Rattle.mvt_plane.specs.Commands.Figure.{rings, spelling}
use Rattle.mvt_rules.specs.Nesting.{IsVertexOf}
use Rattle.mvt_plane.specs.Position.{Position, IsPosition}

-- the numbers draw these rings
pub record DrawLoosely (numbers : List ℕ) (parts : List (List Position)) : Type 0 where
  pub spelled : numbers ≡ spelling (rings parts)
  pub some : (ring : ℕ) (positions : List Position) → slice_get parts ring ≡ Some positions → 1 ≤ length positions
  pub within : (ring vertex : ℕ) (position : Position) → IsVertexOf parts ring vertex position → IsPosition position

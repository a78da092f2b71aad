-- What numbers draw between two places.
use Rattle.std.specs.Prelude.{◌≡◌, ◌<◌, ◌≤◌, ◌+◌, ℕ, List, ◌∷◌, ◌++◌, drop, length, slice_get, Some, ◌-ℤ◌}
use Rattle.mvt_mend.specs.declared.loose.pen.Pen.{Pen}
use Rattle.mvt_plane.specs.Commands.Figure.{close_path, command_integer, cursor, path, steps, zigzag}
use Rattle.mvt_plane.specs.Position.{Position, IsPosition}

-- each of these is in range
abbrev pub AreWithin : List Position → Type 0
AreWithin positions = (vertex : ℕ) (position : Position) → slice_get positions vertex ≡ Some position → IsPosition position

-- the command with this id and count is at the place
pub record IsCommandAt (numbers : List ℕ) (at id count : ℕ) : Type 0 where
  pub within : at < length numbers
  pub stands : drop at numbers ≡ command_integer id count ∷ drop (at + 1) numbers

-- a step from one position to another is at the place
pub record IsStepAt (numbers : List ℕ) (at : ℕ) (from to : Position) : Type 0 where
  pub within : (at + 2) ≤ length numbers
  pub there : IsPosition to
  pub stands : drop at numbers ≡ zigzag (to.x -ℤ from.x) ∷ zigzag (to.y -ℤ from.y) ∷ drop (at + 2) numbers

-- so many steps go on from the pen to another, and their positions come after others
pub record AreStepsDrawn (numbers : List ℕ) (from to : Pen) (count : ℕ) (before after : List Position) : Type 0 where
  pub more : List Position
  pub whole : after ≡ before ++ more
  pub as_many : length more ≡ count
  pub within : AreWithin more
  pub here : to.here ≡ cursor from.here more
  pub further : from.at ≤ to.at
  pub last : to.at ≤ length numbers
  pub stands : drop from.at numbers ≡ steps from.here more ++ drop to.at numbers

-- a ring goes on from the pen to another
pub record IsRingDrawn (numbers : List ℕ) (from to : Pen) (ring : List Position) : Type 0 where
  pub some : 1 ≤ length ring
  pub within : AreWithin ring
  pub here : to.here ≡ cursor from.here ring
  pub further : from.at < to.at
  pub last : to.at ≤ length numbers
  pub stands : drop from.at numbers ≡ path from.here ring ++ (command_integer close_path 1 ∷ drop to.at numbers)

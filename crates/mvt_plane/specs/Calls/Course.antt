-- What lies ahead of a pen at a place of a figure.
use Rattle.std.specs.Prelude.{◌≡◌, ℕ, List, [], ◌++◌, drop, length}
use Rattle.mvt_plane.specs.Commands.Figure.{steps, AreSteps}
use Rattle.mvt_plane.specs.Position.{Position}
use Rattle.mvt_plane.specs.Commands.Course.{Course}

-- at an index of these numbers, with the cursor here
abbrev pub course_at : List ℕ → ℕ → Position → Course
course_at numbers index here = record { here = here; left = drop index numbers }

-- the parameters of so many steps, through these positions, and then the rest
pub record AreStepsAhead (course : Course) (count : ℕ) (positions : List Position) (rest : List ℕ) : Type 0 where
  pub able : AreSteps course.here positions
  pub stands : course.left ≡ steps course.here positions ++ rest
  pub so_many : length positions ≡ count

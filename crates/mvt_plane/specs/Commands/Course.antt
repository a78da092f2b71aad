-- What lies ahead of a pen that goes over the numbers of a figure (Mapbox Vector Tile Specification 2.1, section 4.3).
use Rattle.std.specs.Prelude.{◌≡◌, ℕ, ◌<◌, cond, Bool, List, [], ◌∷◌, ◌++◌, length}
use Rattle.mvt_plane.specs.Commands.Figure.{steps, path, paths, cursor, command_integer, close_path, IsStep, AreSteps, IsPath, ArePaths}
use Rattle.mvt_plane.specs.Position.{Position}

-- the cursor, and the numbers that are left
pub record Course : Type 0 where
  pub here : Position
  pub left : List ℕ

-- the parameters of a step to this position, and then the rest
pub record IsStepAhead (course : Course) (to : Position) (rest : List ℕ) : Type 0 where
  pub able : IsStep course.here to
  pub stands : course.left ≡ steps course.here (to ∷ []) ++ rest

-- a command with the steps through these positions, and then the rest
pub record IsRunAhead (course : Course) (positions : List Position) (rest : List ℕ) : Type 0 where
  pub id : ℕ
  pub is_id : id < 8
  pub able : AreSteps course.here positions
  pub stands : course.left ≡ command_integer id (length positions) ∷ (steps course.here positions ++ rest)

-- a line, or a ring without its end, and then the rest
pub record IsPathAhead (course : Course) (part : List Position) (rest : List ℕ) : Type 0 where
  pub least : ℕ
  pub able : IsPath least course.here part
  pub stands : course.left ≡ path course.here part ++ rest

-- the numbers at the end of a ring, or of a line
abbrev pub ending_of : Bool → List ℕ
ending_of closed = cond closed (command_integer close_path 1 ∷ []) []

-- lines or rings up to the end
pub record ArePathsAhead (course : Course) (closed : Bool) (parts : List (List Position)) : Type 0 where
  pub least : ℕ
  pub able : ArePaths least course.here parts
  pub stands : course.left ≡ paths (ending_of closed) course.here parts

-- How the lines or rings that are ahead come apart

-- a line or ring is a run of one step, and one of the further steps
pub record AreTwoRuns (course : Course) (part : List Position) (rest : List ℕ) : Type 0 where
  pub first : Position
  pub more : List Position
  pub whole : first ∷ more ≡ part
  pub between : Course
  pub following : between ≡ record { here = first; left = between.left }
  pub one : IsRunAhead course (first ∷ []) between.left
  pub further : IsRunAhead between more rest

-- the first of the lines or rings ahead, and those after it
pub record IsNextPath (course : Course) (closed : Bool) (parts : List (List Position)) : Type 0 where
  pub part : List Position
  pub more : List (List Position)
  pub whole : part ∷ more ≡ parts
  pub left : List ℕ
  pub first : IsPathAhead course part (ending_of closed ++ left)
  pub further : ArePathsAhead (record { here = cursor course.here part; left = left }) closed more

-- How the numbers of a geometry are gone through one by one (Mapbox Vector Tile Specification 2.1, section 4.3), by the words
-- of `mvt_plane`'s `Drawing`.
use Rattle.std.specs.Prelude.{◌≡◌, ◌≢◌, ℕ, ◌+◌, ◌/◌, ◌%◌, ◌<◌, ◌≤◌, List, length, slice_index, ℤ, ◌+ℤ◌, ◌-ℤ◌, Option, Some, None}
use Rattle.mvt_confirm.specs.declared.commands.state.GeometryType.{GeometryType}
use Rattle.mvt_confirm.specs.declared.commands.state.GeometryType.TheVariants.{Point, LineString, Polygon}
use Rattle.mvt_confirm.specs.declared.commands.state.Leg.{Leg}
use Rattle.mvt_confirm.specs.declared.commands.state.Leg.TheVariants.{ToPoint, ToFirst, ToNext}
use Rattle.mvt_confirm.specs.declared.commands.state.State.{State}
use Rattle.mvt_confirm.specs.declared.commands.state.State.TheVariants.{PointsCommand, PathCommand, LineCommand, CloseCommand, StepX, StepY, AllDrawn}
use Rattle.mvt_fault.specs.Code.{command_code}
use Rattle.mvt_fault.specs.declared.command.CommandCode.{CommandCode}
use Rattle.mvt_fault.specs.declared.command.CommandCode.TheVariants.{OtherCommand, OtherCount, GreatestParameter, OutOfBounds}
use Rattle.mvt_plane.specs.Commands.CommandFault.{greatest_parameter}
use Rattle.mvt_plane.specs.Commands.Drawing as plane
use Rattle.mvt_plane.specs.Commands.Drawing.{unzigzag}
use Rattle.mvt_plane.specs.Commands.Figure as figures
use Rattle.mvt_plane.specs.Position.{Position, IsCoordinate}
use Rattle.mvt_plane.specs.Calls.Reading.{StandsAt, IsFaulty}

-- The states of the code

-- the geometry type of a value
abbrev pub plane_type : GeometryType → figures.GeometryType
plane_type Point = figures.point
plane_type LineString = figures.line_string
plane_type Polygon = figures.polygon

-- the step of a value
abbrev pub plane_leg : Leg → plane.Leg
plane_leg (ToPoint left) = plane.to_point left
plane_leg ToFirst = plane.to_first
plane_leg (ToNext left) = plane.to_next left

-- where the cursor is, before this x of a step led to the given position
abbrev pub before_x : Position → ℕ → Position
before_x beside x = record { x = beside.x -ℤ unzigzag x; y = beside.y }

-- the state of a value
abbrev pub plane_state : State → plane.State
plane_state PointsCommand = plane.points_command
plane_state (PathCommand drawn from) = plane.path_command drawn from
plane_state (LineCommand from) = plane.line_command from
plane_state (CloseCommand from) = plane.close_command from
plane_state (StepX leg from) = plane.step_x (plane_leg leg) from
plane_state (StepY leg beside x) = plane.step_y (plane_leg leg) (before_x beside x) x
plane_state AllDrawn = plane.all_drawn

-- Where numbers lead

-- the numbers lead to a state, and this one is next there
pub record IsNext (geometry_type : figures.GeometryType) (numbers : List ℕ) (at : ℕ) (state : plane.State) (number : ℕ) : Type 0 where
  pub there : StandsAt geometry_type numbers at state
  pub within : at < length numbers
  pub here : slice_index numbers at ≡ number

-- in whatever numbers it is next in a state, the number leads to that state
abbrev pub Goes : figures.GeometryType → plane.State → ℕ → plane.State → Type 0
Goes geometry_type from number to = (numbers : List ℕ) (at : ℕ) → IsNext geometry_type numbers at from number → StandsAt geometry_type numbers (at + 1) to

-- in whatever numbers it is next in a state, the number is their fault, of this code
abbrev pub Faults : figures.GeometryType → plane.State → ℕ → CommandCode → Type 0
Faults geometry_type from number code = (numbers : List ℕ) (at : ℕ) → IsNext geometry_type numbers at from number → IsFaulty geometry_type numbers (command_code code) at

-- where so many numbers are passed, the index is so many numbers ahead, or after (None)
abbrev pub IsAhead : Option ℕ → ℕ → ℕ → Type 0
IsAhead (Some left) passed index = passed + left ≡ index
IsAhead None passed index = index < passed

-- What is wrong with a number

-- a command integer with this id and a count from the one to the other
pub record IsCommandOf (id fewest most number : ℕ) : Type 0 where
  pub fits : number % 8 ≡ id
  pub enough : fewest ≤ number / 8
  pub few : number / 8 ≤ most

-- why a number isn't such a command
pub data IsNoCommand (id fewest most number : ℕ) (code : CommandCode) : Type 0 where
  other_command : number % 8 ≢ id → code ≡ OtherCommand → IsNoCommand id fewest most number code
  other_count : number % 8 ≡ id → (fewest ≤ number / 8 → number / 8 ≤ most → ⊥) → code ≡ OtherCount → IsNoCommand id fewest most number code

-- why a parameter leads nowhere from a coordinate
pub data IsNoMove (from : ℤ) (parameter : ℕ) (code : CommandCode) : Type 0 where
  greatest : parameter ≡ greatest_parameter → code ≡ GreatestParameter → IsNoMove from parameter code
  outside : parameter ≢ greatest_parameter → ¬ IsCoordinate (from +ℤ unzigzag parameter) → code ≡ OutOfBounds → IsNoMove from parameter code

-- the parameters of a LineTo that leads to where the cursor is
pub record IsStay (leg : plane.Leg) (x y : ℕ) : Type 0 where
  pub left : ℕ
  pub of_line : leg ≡ plane.to_next left
  pub none_x : x ≡ 0
  pub none_y : y ≡ 0

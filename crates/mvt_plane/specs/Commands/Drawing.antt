-- How a figure is drawn number by number, as a reader in one pass goes: what is due in each state, which numbers are
-- allowed there, and to which state each of them leads. A reader that keeps to this gives figures and command faults as
-- `Figure` and `CommandFault` define them: laws of this crate.
use Rattle.std.specs.Prelude.{◌≡◌, ℕ, zero, suc, ◌-◌, ◌/◌, ◌%◌, ◌≤◌, ◌==◌, cond, Bool, true, false, List, [], ◌∷◌, ℤ, pos, negsuc, ◌+ℤ◌, Option, Some, None}
use Rattle.mvt_plane.specs.Position.{Position, origin, IsCoordinate, IsPosition}
use Rattle.mvt_plane.specs.Commands.Figure.{GeometryType, point, line_string, polygon, move_to, line_to, close_path, command_integer, IsParameter, IsCount}
use Rattle.mvt_plane.specs.Commands.CommandFault.{Part, command, x_of_step, y_of_step, Word, Applies}

-- the signed number that a parameter encodes
abbrev pub unzigzag : ℕ → ℤ
unzigzag n = cond (n % 2 == 0) (pos (n / 2)) (negsuc (n / 2))

-- States

-- a step that is due: to one of a list of points, with so many to go after it; to the first position of a line or
-- ring; to a further one, with so many to go after it
pub data Leg : Type 0 where
  to_point : (left : ℕ) → Leg
  to_first : Leg
  to_next : (left : ℕ) → Leg

-- what is due, and the position of the cursor: the MoveTo of points; the MoveTo of a line or ring, where one is drawn
-- already or none; its LineTo; its ClosePath; the x of a step; the y of a step, after this x; nothing, after all
-- points
pub data State : Type 0 where
  points_command : State
  path_command : (drawn : Bool) (from : Position) → State
  line_command : (from : Position) → State
  close_command : (from : Position) → State
  step_x : (leg : Leg) (from : Position) → State
  step_y : (leg : Leg) (from : Position) (x : ℕ) → State
  all_drawn : State

-- before the first number
abbrev pub start : GeometryType → State
start point = points_command
start line_string = path_command false origin
start polygon = path_command false origin

-- the id of the command that a step belongs to
abbrev pub id_of : Leg → ℕ
id_of (to_point left) = move_to
id_of to_first = move_to
id_of (to_next left) = line_to

-- the part of a spelling that is due
abbrev pub due : State → Option Part
due points_command = Some (command move_to)
due (path_command drawn from) = Some (command move_to)
due (line_command from) = Some (command line_to)
due (close_command from) = Some (command close_path)
due (step_x leg from) = Some (x_of_step from.x)
due (step_y leg from x) = Some (y_of_step (id_of leg) from.y x)
due all_drawn = None

-- Which numbers are allowed

-- so many positions at least are after the first one of a line or ring
abbrev pub least : GeometryType → ℕ
least point = 1
least line_string = 1
least polygon = 2

-- a command with its id and a count that isn't less than this
pub record IsCommand (id fewest n : ℕ) : Type 0 where
  pub fits : n % 8 ≡ id
  pub enough : fewest ≤ n / 8
  pub counted : IsCount (n / 8)

-- a parameter that leads from this coordinate to another one
pub record IsMove (from : ℤ) (n : ℕ) : Type 0 where
  pub parameter : IsParameter (unzigzag n)
  pub there : IsCoordinate (from +ℤ unzigzag n)

-- a step of a LineTo isn't (0, 0)
abbrev pub GoesElsewhere : Leg → ℕ → ℕ → Type 0
GoesElsewhere (to_point left) x y = Unit {0}
GoesElsewhere to_first x y = Unit {0}
GoesElsewhere (to_next left) x y = x ≡ 0 → y ≡ 0 → ⊥

-- a number is allowed
abbrev pub IsAllowed : GeometryType → State → ℕ → Type 0
IsAllowed geometry_type points_command n = IsCommand move_to 1 n
IsAllowed geometry_type (path_command drawn from) n = n ≡ command_integer move_to 1
IsAllowed geometry_type (line_command from) n = IsCommand line_to (least geometry_type) n
IsAllowed geometry_type (close_command from) n = n ≡ command_integer close_path 1
IsAllowed geometry_type (step_x leg from) n = IsMove from.x n
IsAllowed geometry_type (step_y leg from x) n = IsMove from.y n × GoesElsewhere leg x n
IsAllowed geometry_type all_drawn n = ⊥

-- the numbers may end here
abbrev pub MayEnd : State → Type 0
MayEnd points_command = ⊥
MayEnd (path_command drawn from) = drawn ≡ true
MayEnd (line_command from) = ⊥
MayEnd (close_command from) = ⊥
MayEnd (step_x leg from) = ⊥
MayEnd (step_y leg from x) = ⊥
MayEnd all_drawn = Unit {0}

-- Where a number leads

-- the position where the two parameters of a step lead
abbrev pub moved : Position → ℕ → ℕ → Position
moved from x y = record { x = from.x +ℤ unzigzag x; y = from.y +ℤ unzigzag y }

-- after the last position of a line or ring
abbrev pub after_path : GeometryType → Position → State
after_path point to = path_command true to
after_path line_string to = path_command true to
after_path polygon to = close_command to

-- after a step
abbrev pub following : GeometryType → Leg → Position → State
following geometry_type (to_point zero) to = all_drawn
following geometry_type (to_point (suc left)) to = step_x (to_point left) to
following geometry_type to_first to = line_command to
following geometry_type (to_next zero) to = after_path geometry_type to
following geometry_type (to_next (suc left)) to = step_x (to_next left) to

-- after a number
abbrev pub next : GeometryType → State → ℕ → State
next geometry_type points_command n = step_x (to_point (n / 8 - 1)) origin
next geometry_type (path_command drawn from) n = step_x to_first from
next geometry_type (line_command from) n = step_x (to_next (n / 8 - 1)) from
next geometry_type (close_command from) n = path_command true from
next geometry_type (step_x leg from) n = step_y leg from n
next geometry_type (step_y leg from x) n = following geometry_type leg (moved from x n)
next geometry_type all_drawn n = all_drawn

-- Drawing

-- all of these numbers are allowed, one after another
abbrev pub Passes : GeometryType → State → List ℕ → Type 0
Passes geometry_type state [] = Unit {0}
Passes geometry_type state (n ∷ rest) = IsAllowed geometry_type state n × Passes geometry_type (next geometry_type state n) rest

-- the state after them
abbrev pub state_after : GeometryType → State → List ℕ → State
state_after geometry_type state [] = state
state_after geometry_type state (n ∷ rest) = state_after geometry_type (next geometry_type state n) rest

-- each of these words is due and its number allowed, one after another, and after the last one the numbers may end
abbrev pub Draws : GeometryType → State → List Word → Type 0
Draws geometry_type state [] = MayEnd state
Draws geometry_type state (word ∷ rest) = (due state ≡ Some word.part) × IsAllowed geometry_type state word.number × Draws geometry_type (next geometry_type state word.number) rest

-- the cursor is in range, and an x that was read leads to a coordinate
abbrev pub IsSound : State → Type 0
IsSound points_command = Unit {0}
IsSound (path_command drawn from) = IsPosition from
IsSound (line_command from) = IsPosition from
IsSound (close_command from) = IsPosition from
IsSound (step_x leg from) = IsPosition from
IsSound (step_y leg from x) = IsPosition from × IsMove from.x x
IsSound all_drawn = Unit {0}

-- Faults

-- the first code that applies to a number
pub record IsFirstCode (part : Part) (n code : ℕ) : Type 0 where
  pub applies : Applies part n code
  pub first : (other : ℕ) → Applies part n other → code ≤ other

-- a code is to blame for a number: nothing is due, or it is the first code that applies to what is due
pub data IsBlamed (state : State) (n code : ℕ) : Type 0 where
  not_due : due state ≡ None → code ≡ 401 → IsBlamed state n code
  not_allowed : (part : Part) → due state ≡ Some part → IsFirstCode part n code → IsBlamed state n code

-- From a state on, the first number that isn't allowed is at this index, and the code is to blame for it; or the
-- numbers end at this index where they may not
abbrev pub FaultFrom : GeometryType → State → List ℕ → ℕ → ℕ → Type 0
FaultFrom geometry_type state [] code index = (MayEnd state → ⊥) × (code ≡ 403) × (index ≡ 0)
FaultFrom geometry_type state (n ∷ rest) code zero = (IsAllowed geometry_type state n → ⊥) × IsBlamed state n code
FaultFrom geometry_type state (n ∷ rest) code (suc index) = IsAllowed geometry_type state n × FaultFrom geometry_type (next geometry_type state n) rest code index

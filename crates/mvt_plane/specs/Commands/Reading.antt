-- How the numbers of a geometry are read: how far they are allowed, what the next ones must be, and where these lead
-- (Mapbox Vector Tile Specification 2.1, section 4.3).
use Rattle.std.specs.Prelude.{◌≡◌, ℕ, zero, suc, ◌-◌, ◌^◌, Bool, true, false, List, [], ◌∷◌, ℤ}
use Rattle.mvt_plane.specs.Commands.Drawing.{Leg, to_point, to_first, to_next, State, points_command, path_command, line_command, close_command, step_x, step_y, all_drawn, start, least, IsAllowed, next, after_path, Passes, state_after, MayEnd}
use Rattle.mvt_plane.specs.Commands.Figure.{GeometryType, line_string, polygon, move_to, line_to, close_path}
use Rattle.mvt_plane.specs.Position.{Position}

-- How far the numbers are allowed

-- from a state on, the numbers before this index are allowed, and lead to that state
abbrev pub Leads : GeometryType → State → List ℕ → ℕ → State → Type 0
Leads geometry_type from numbers zero to = from ≡ to
Leads geometry_type from [] (suc index) to = ⊥
Leads geometry_type from (n ∷ rest) (suc index) to = IsAllowed geometry_type from n × Leads geometry_type (next geometry_type from n) rest index to

-- the numbers are allowed, and may end
abbrev pub IsWhole : GeometryType → List ℕ → Type 0
IsWhole geometry_type numbers = Passes geometry_type (start geometry_type) numbers × MayEnd (state_after geometry_type (start geometry_type) numbers)

-- What the next number must be

-- the greatest count of a command (section 4.3.1)
abbrev pub greatest_count : ℕ
greatest_count = 2 ^ 29 - 1

-- a command with this id and a count from the one to the other
pub data AsksCommand (geometry_type : GeometryType) : State → ℕ → ℕ → ℕ → Type 0 where
  of_points : AsksCommand geometry_type points_command move_to 1 greatest_count
  of_path : (drawn : Bool) (from : Position) → AsksCommand geometry_type (path_command drawn from) move_to 1 1
  of_line : (from : Position) → AsksCommand geometry_type (line_command from) line_to (least geometry_type) greatest_count
  of_close : (from : Position) → AsksCommand geometry_type (close_command from) close_path 1 1

-- a parameter of a step, from this coordinate
pub data AsksCoordinate : State → ℤ → Type 0 where
  of_x : (leg : Leg) (from : Position) → AsksCoordinate (step_x leg from) from.x
  of_y : (leg : Leg) (from : Position) (x : ℕ) → AsksCoordinate (step_y leg from x) from.y

-- a step of a LineTo
abbrev pub is_line : Leg → Bool
is_line (to_point left) = false
is_line to_first = false
is_line (to_next left) = true

-- Where steps lead

-- with so many steps to go, of a LineTo or to points
abbrev pub with_left : GeometryType → Bool → ℕ → Position → State
with_left geometry_type true zero from = after_path geometry_type from
with_left geometry_type true (suc left) from = step_x (to_next left) from
with_left geometry_type false zero from = all_drawn
with_left geometry_type false (suc left) from = step_x (to_point left) from

-- the geometry type of rings, which are closed, or of lines
abbrev pub path_type : Bool → GeometryType
path_type true = polygon
path_type false = line_string

-- In each state a number of 32 bits is allowed, or a code is to blame for it: the first that applies to what is due.
use Rattle.std.proofs.Common.{◌≡◌, ◌≢◌, ℕ, ◌/◌, ◌%◌, ◌^◌, ◌<◌, ◌⊎◌, inl, inr, ℤ, pos, ◌+ℤ◌, neg_ℤ, Some, refl, arith}
use Rattle.std.proofs.lemmas.Int.{ints, by_lt_z}
use Rattle.std.proofs.lemmas.Bool.{cases_eq, cases_lt}
use Rattle.mvt_plane.specs.Position.{Position, IsCoordinate}
use Rattle.mvt_plane.specs.Commands.Figure.{GeometryType, move_to, line_to, close_path, command_integer}
use Rattle.mvt_plane.specs.Commands.CommandFault.{command, greatest_parameter}
use Rattle.mvt_plane.proofs.Spelling.FirstCodes.{other_command_first, other_count_first, greatest_x_first, greatest_y_first, x_outside_first, y_outside_first, no_step_first}
use Rattle.mvt_plane.specs.Commands.Drawing.{Leg, to_point, to_first, to_next, State, points_command, path_command, line_command, close_command, step_x, step_y, all_drawn, due, id_of, least, IsCommand, IsMove, IsAllowed, unzigzag, IsFirstCode, IsBlamed, not_due, not_allowed}
use Rattle.mvt_plane.proofs.Spelling.Readers.{is_parameter, greatest_moves_not, stays_inside}

-- a number isn't the command that is due
command_blame : (id n : ℕ) → (code : ℕ) × IsFirstCode (command id) n code
command_blame id n = elim (cases_eq (n % 8) id) [
  | inl same ↦ (402, other_count_first id n same)
  | inr other ↦ (401, other_command_first id n other)
]

-- Parameters

-- a number is in range or not
is_coordinate : (z : ℤ) → IsCoordinate z ⊎ (IsCoordinate z → ⊥)
is_coordinate z = by_lt_z z (neg_ℤ (pos (2 ^ 30)))
    (λ below. inr (λ inside. omega (arith, ints)))
    (λ above. by_lt_z (pos (2 ^ 30)) z (λ beyond. inr (λ inside. omega (arith, ints))) (λ within. inl (above, within)))

-- a parameter leads to a coordinate, or is the greatest, or leads out of range
data Judged (from : ℤ) (n : ℕ) : Type 0 where
  moves : IsMove from n → Judged from n
  is_greatest : n ≡ greatest_parameter → Judged from n
  leaves : n ≢ greatest_parameter → (IsCoordinate (from +ℤ unzigzag n) → ⊥) → Judged from n

-- each of 32 bits is one of these
judged : (from : ℤ) (n : ℕ) → n < 2 ^ 32 → Judged from n
judged from n small = elim (cases_eq n greatest_parameter) [
  | inl greatest ↦ is_greatest greatest
  | inr other ↦ elim (is_coordinate (from +ℤ unzigzag n)) [
    | inl inside ↦ moves (record { parameter = is_parameter n small other; there = inside })
    | inr outside ↦ leaves other outside
  ]
]

-- What is to blame in a state

-- a number is allowed, or a code is to blame for it
pub data Verdict (geometry_type : GeometryType) (state : State) (n : ℕ) : Type 0 where
  allowed : IsAllowed geometry_type state n → Verdict geometry_type state n
  blamed : (code : ℕ) → (IsAllowed geometry_type state n → ⊥) → IsBlamed state n code → Verdict geometry_type state n

-- a number is the command that is due or not
is_command_or_not : (id fewest n : ℕ) → n < 2 ^ 32 → IsCommand id fewest n ⊎ (IsCommand id fewest n → ⊥)
is_command_or_not id fewest n small = elim (cases_eq (n % 8) id) [
  | inl same ↦ elim (cases_lt (n / 8) fewest) [
    | inl less ↦ inr (λ fits. omega arith)
    | inr enough ↦ inl (record { fits = same; enough = enough; counted = omega arith })
  ]
  | inr other ↦ inr (λ fits. other fits.fits)
]

-- what is to blame where it isn't
blame_command : (geometry_type : GeometryType) (state : State) (id n : ℕ) → due state ≡ Some (command id) → (IsAllowed geometry_type state n → ⊥) → Verdict geometry_type state n
blame_command geometry_type state id n is_due refused =
    let blame = command_blame id n in
    blamed blame.0 refused (not_allowed (command id) is_due blame.1)

-- a y that leads to a coordinate
verdict_y : (geometry_type : GeometryType) (leg : Leg) (from : Position) (x n : ℕ) → n < 2 ^ 32 → IsMove from.y n → Verdict geometry_type (step_y leg from x) n
verdict_y geometry_type (to_point left) from x n small move = allowed (move, tt)
verdict_y geometry_type to_first from x n small move = allowed (move, tt)
verdict_y geometry_type (to_next left) from x n small move = elim (cases_eq x 0) [
  | inl none_x ↦ elim (cases_eq n 0) [
    | inl none_y ↦ blamed 406 (λ both. both.1 none_x none_y) (not_allowed _ refl (no_step_first from.y x n (stays_inside from.y n move.there) none_x none_y))
    | inr some ↦ allowed (move, λ none_x' none_y. some none_y)
  ]
  | inr some ↦ allowed (move, λ none_x none_y. some none_x)
]

-- each number of 32 bits
pub verdict : (geometry_type : GeometryType) (state : State) (n : ℕ) → n < 2 ^ 32 → Verdict geometry_type state n
verdict geometry_type points_command n small = elim (is_command_or_not move_to 1 n small) [
  | inl fits ↦ allowed fits
  | inr refused ↦ blame_command geometry_type points_command move_to n refl refused
]
verdict geometry_type (path_command drawn from) n small = elim (cases_eq n (command_integer move_to 1)) [
  | inl same ↦ allowed same
  | inr refused ↦ blame_command geometry_type (path_command drawn from) move_to n refl refused
]
verdict geometry_type (line_command from) n small = elim (is_command_or_not line_to (least geometry_type) n small) [
  | inl fits ↦ allowed fits
  | inr refused ↦ blame_command geometry_type (line_command from) line_to n refl refused
]
verdict geometry_type (close_command from) n small = elim (cases_eq n (command_integer close_path 1)) [
  | inl same ↦ allowed same
  | inr refused ↦ blame_command geometry_type (close_command from) close_path n refl refused
]
verdict geometry_type (step_x leg from) n small = elim (judged from.x n small) [
  | moves move ↦ allowed move
  | is_greatest greatest ↦ blamed 404 (greatest_moves_not from.x n greatest) (not_allowed _ refl (greatest_x_first from.x n greatest))
  | leaves other outside ↦ blamed 405 (λ move. outside move.there) (not_allowed _ refl (x_outside_first from.x n other outside))
]
verdict geometry_type (step_y leg from x) n small = elim (judged from.y n small) [
  | moves move ↦ verdict_y geometry_type leg from x n small move
  | is_greatest greatest ↦ blamed 404 (λ both. greatest_moves_not from.y n greatest both.0) (not_allowed _ refl (greatest_y_first (id_of leg) from.y x n greatest))
  | leaves other outside ↦ blamed 405 (λ both. outside both.0.there) (not_allowed _ refl (y_outside_first (id_of leg) from.y x n other outside))
]
verdict geometry_type all_drawn n small = blamed 401 (λ refused. refused) (not_due refl refl)

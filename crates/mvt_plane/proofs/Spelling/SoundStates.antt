-- From each sound state a figure can be drawn to its end, and where something is due, by one number at least.
use Rattle.std.proofs.Common.{◌≡◌, ◌≢◌, ℕ, zero, suc, ◌-◌, ◌/◌, List, [], ◌∷◌, ℤ, pos, Some, refl, arith}
use Rattle.std.proofs.lemmas.Int.{ints, by_lt_z}
use Rattle.mvt_plane.specs.Position.{Position, origin, IsCoordinate, IsPosition}
use Rattle.mvt_plane.specs.Commands.Figure.{GeometryType, point, line_string, polygon, move_to, line_to, close_path, command_integer, IsCount}
use Rattle.mvt_plane.specs.Commands.CommandFault.{Part, command, x_of_step, y_of_step, Word, word}
use Rattle.mvt_plane.specs.Commands.Drawing.{Leg, to_point, to_first, to_next, State, points_command, path_command, line_command, close_command, step_x, step_y, all_drawn, start, due, id_of, least, IsMove, GoesElsewhere, IsAllowed, moved, after_path, following, next, Draws, Passes, state_after, IsSound}
use Rattle.mvt_plane.proofs.Spelling.Figures.{is_command}

-- words from a state to the end
pub record Completion (geometry_type : GeometryType) (state : State) : Type 0 where
  pub words : List Word
  pub draws : Draws geometry_type state words

-- the same, and there is one
pub record Continuation (geometry_type : GeometryType) (state : State) : Type 0 where
  pub first : Word
  pub rest : List Word
  pub draws : Draws geometry_type state (first ∷ rest)

-- so it is drawn to the end
pub completion : (geometry_type : GeometryType) (state : State) → Continuation geometry_type state → Completion geometry_type state
completion geometry_type state more = record { words = more.first ∷ more.rest; draws = more.draws }

-- a step of no length
stand : (from : ℤ) → IsCoordinate from → IsMove from 0
stand from there = record { parameter = (omega (arith, ints), omega (arith, ints)); there = (omega (arith, ints), omega (arith, ints)) }

-- a step of length 1 in one direction or the other
pub record Aside (from : ℤ) : Type 0 where
  pub number : ℕ
  pub move : IsMove from number
  pub some : number ≢ 0

-- there is one from each coordinate
aside : (from : ℤ) → IsCoordinate from → Aside from
aside from there = by_lt_z (pos 0) from
    (λ positive. record { number = 1; move = record { parameter = (omega (arith, ints), omega (arith, ints)); there = (omega (arith, ints), omega (arith, ints)) }; some = λ none. omega arith })
    (λ negative. record { number = 2; move = record { parameter = (omega (arith, ints), omega (arith, ints)); there = (omega (arith, ints), omega (arith, ints)) }; some = λ none. omega arith })

-- such a step isn't (0, 0)
goes_aside : (leg : Leg) (x y : ℕ) → y ≢ 0 → GoesElsewhere leg x y
goes_aside (to_point left) x y some = tt
goes_aside to_first x y some = tt
goes_aside (to_next left) x y some = λ none none'. some none'

-- A step is drawn to the end where that which is after it is

-- from its y on
continue_y : (geometry_type : GeometryType) (leg : Leg) (from : Position) (x : ℕ) → IsPosition from → IsMove from.x x → ((to : Position) → IsPosition to → Completion geometry_type (following geometry_type leg to)) → Continuation geometry_type (step_y leg from x)
continue_y geometry_type leg from x inside move after_leg =
    let turn = aside from.y inside.y in
    let there : IsPosition (moved from x turn.number) = record { x = move.there; y = turn.move.there } in
    let more = after_leg (moved from x turn.number) there in
    record {
      first = word (y_of_step (id_of leg) from.y x) turn.number;
      rest = more.words;
      draws = (refl, (turn.move, goes_aside leg x turn.number turn.some), more.draws);
    }

-- from its x on
continue_x : (geometry_type : GeometryType) (leg : Leg) (from : Position) → IsPosition from → ((to : Position) → IsPosition to → Completion geometry_type (following geometry_type leg to)) → Continuation geometry_type (step_x leg from)
continue_x geometry_type leg from inside after_leg =
    let more = continue_y geometry_type leg from 0 inside (stand from.x inside.x) after_leg in
    record { first = word (x_of_step from.x) 0; rest = more.first ∷ more.rest; draws = (refl, stand from.x inside.x, more.draws) }

-- What is after the steps

-- a ClosePath
continue_close : (geometry_type : GeometryType) (from : Position) → Continuation geometry_type (close_command from)
continue_close geometry_type from = record { first = word (command close_path) 15; rest = []; draws = (refl, refl, refl) }

-- the end of a line or ring
complete_path : (geometry_type : GeometryType) (to : Position) → Completion geometry_type (after_path geometry_type to)
complete_path point to = record { words = []; draws = refl }
complete_path line_string to = record { words = []; draws = refl }
complete_path polygon to = completion polygon (close_command to) (continue_close polygon to)

-- further positions of a line or ring
complete_next : (geometry_type : GeometryType) (left : ℕ) (to : Position) → IsPosition to → Completion geometry_type (following geometry_type (to_next left) to)
complete_next geometry_type zero to inside = complete_path geometry_type to
complete_next geometry_type (suc left) to inside =
    completion geometry_type (step_x (to_next left) to) (continue_x geometry_type (to_next left) to inside (complete_next geometry_type left))

-- further points
complete_points : (geometry_type : GeometryType) (left : ℕ) (to : Position) → IsPosition to → Completion geometry_type (following geometry_type (to_point left) to)
complete_points geometry_type zero to inside = record { words = []; draws = tt }
complete_points geometry_type (suc left) to inside =
    completion geometry_type (step_x (to_point left) to) (continue_x geometry_type (to_point left) to inside (complete_points geometry_type left))

-- the least count is a count
few : (geometry_type : GeometryType) → IsCount (least geometry_type)
few point = omega arith
few line_string = omega arith
few polygon = omega arith

-- a LineTo
continue_line : (geometry_type : GeometryType) (from : Position) → IsPosition from → Continuation geometry_type (line_command from)
continue_line geometry_type from inside =
    let number = command_integer line_to (least geometry_type) in
    let left = number / 8 - 1 in
    let more = continue_x geometry_type (to_next left) from inside (complete_next geometry_type left) in
    record {
      first = word (command line_to) number;
      rest = more.first ∷ more.rest;
      draws = (refl, is_command line_to (least geometry_type) (least geometry_type) (omega arith) (omega arith) (few geometry_type), more.draws);
    }

-- after any step
complete_leg : (geometry_type : GeometryType) (leg : Leg) (to : Position) → IsPosition to → Completion geometry_type (following geometry_type leg to)
complete_leg geometry_type (to_point left) to inside = complete_points geometry_type left to inside
complete_leg geometry_type to_first to inside = completion geometry_type (line_command to) (continue_line geometry_type to inside)
complete_leg geometry_type (to_next left) to inside = complete_next geometry_type left to inside

-- the cursor begins in range
inside_origin : IsPosition origin
inside_origin = record { x = (omega (arith, ints), omega (arith, ints)); y = (omega (arith, ints), omega (arith, ints)) }

-- Each sound state

-- where a part is due
pub continuation : (geometry_type : GeometryType) (state : State) (part : Part) → IsSound state → due state ≡ Some part → Continuation geometry_type state
continuation geometry_type points_command part sound is_due =
    let more = continue_x geometry_type (to_point 0) origin inside_origin (complete_points geometry_type 0) in
    record { first = word (command move_to) 9; rest = more.first ∷ more.rest; draws = (refl, is_command move_to 1 1 (omega arith) (omega arith) (omega arith), more.draws) }
continuation geometry_type (path_command drawn from) part sound is_due =
    let more = continue_x geometry_type to_first from sound (complete_leg geometry_type to_first) in
    record { first = word (command move_to) 9; rest = more.first ∷ more.rest; draws = (refl, refl, more.draws) }
continuation geometry_type (line_command from) part sound is_due = continue_line geometry_type from sound
continuation geometry_type (close_command from) part sound is_due = continue_close geometry_type from
continuation geometry_type (step_x leg from) part sound is_due = continue_x geometry_type leg from sound (complete_leg geometry_type leg)
continuation geometry_type (step_y leg from x) part sound is_due = continue_y geometry_type leg from x sound.0 sound.1 (complete_leg geometry_type leg)
continuation geometry_type all_drawn part sound is_due = absurd (cc)

-- due or not
pub complete : (geometry_type : GeometryType) (state : State) → IsSound state → Completion geometry_type state
complete geometry_type all_drawn sound = record { words = []; draws = tt }
complete geometry_type state sound = completion geometry_type state (continuation geometry_type state _ sound refl)

-- Each number that is allowed leads to a sound state

-- after a step
sound_after : (geometry_type : GeometryType) (leg : Leg) (to : Position) → IsPosition to → IsSound (following geometry_type leg to)
sound_after geometry_type (to_point zero) to inside = tt
sound_after point (to_next zero) to inside = inside
sound_after line_string (to_next zero) to inside = inside
sound_after polygon (to_next zero) to inside = inside
sound_after geometry_type leg to inside = inside

-- after a number
pub sound_next : (geometry_type : GeometryType) (state : State) (n : ℕ) → IsSound state → IsAllowed geometry_type state n → IsSound (next geometry_type state n)
sound_next geometry_type points_command n sound allowed = inside_origin
sound_next geometry_type (step_x leg from) n sound allowed = (sound, allowed)
sound_next geometry_type (step_y leg from x) n sound allowed =
    let y_there = allowed.0 in
    sound_after geometry_type leg (moved from x n) (record { x = sound.1.there; y = y_there.there })
sound_next geometry_type all_drawn n sound allowed = tt
sound_next geometry_type state n sound allowed = sound

-- after numbers
pub sound_state : (geometry_type : GeometryType) (state : State) (numbers : List ℕ) → IsSound state → Passes geometry_type state numbers → IsSound (state_after geometry_type state numbers)
sound_state geometry_type state [] sound passes = sound
sound_state geometry_type state (n ∷ rest) sound passes = sound_state geometry_type (next geometry_type state n) rest (sound_next geometry_type state n sound passes.0) passes.1

-- at the start
pub sound_start : (geometry_type : GeometryType) → IsSound (start geometry_type)
sound_start point = tt
sound_start line_string = inside_origin
sound_start polygon = inside_origin

pub sound_after_start : (geometry_type : GeometryType) (numbers : List ℕ) → Passes geometry_type (start geometry_type) numbers → IsSound (state_after geometry_type (start geometry_type) numbers)
sound_after_start geometry_type numbers passes = sound_state geometry_type (start geometry_type) numbers (sound_start geometry_type) passes

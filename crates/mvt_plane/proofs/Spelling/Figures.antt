-- The words of a figure are drawn from the start to the end.
use Rattle.std.proofs.Common.{◌≡◌, ◌≢◌, ℕ, zero, suc, ◌+◌, ◌-◌, ◌*◌, ◌/◌, ◌<◌, ◌≤◌, Bool, true, false, List, [], ◌∷◌, ◌++◌, length, ℤ, pos, ◌+ℤ◌, ◌-ℤ◌, refl, sym, ◌∙◌, ap, ap₂, subst, arith}
use Rattle.std.proofs.lemmas.Int.{ints}
use Rattle.mvt_plane.specs.Position.{Position, origin, IsCoordinate}
use Rattle.mvt_plane.specs.Commands.Figure.{GeometryType, point, line_string, polygon, Figure, points, lines, rings, type_of, zigzag, move_to, line_to, close_path, command_integer, cursor, IsStep, IsParameter, AreSteps, AreApart, IsPath, ArePaths, HasSpelling, IsCount}
use Rattle.mvt_plane.specs.Commands.CommandFault.{command, Word, word, step_words, path_words, words_of_paths, words}
use Rattle.mvt_plane.proofs.Spelling.Parameters.{unzigzag-zigzag, zigzag_injective}
use Rattle.mvt_plane.proofs.Spelling.Spellings.{position_at}
use Rattle.mvt_plane.specs.Commands.Drawing.{Leg, to_point, to_first, to_next, path_command, step_x, start, id_of, least, IsCommand, IsMove, GoesElsewhere, moved, after_path, following, Draws, unzigzag}

-- the step to a coordinate leads there
moved_to : (from to : ℤ) → from +ℤ unzigzag (zigzag (to -ℤ from)) ≡ to
moved_to from to = ap (λ (d : ℤ). from +ℤ d) (unzigzag-zigzag (to -ℤ from)) ∙ omega (arith, ints)

-- so do the two of a position
moved_there : (from to : Position) → moved from (zigzag (to.x -ℤ from.x)) (zigzag (to.y -ℤ from.y)) ≡ to
moved_there from to = ap₂ position_at (moved_to from.x to.x) (moved_to from.y to.y)

-- the step is allowed
is_move : (from to : ℤ) → IsParameter (to -ℤ from) → IsCoordinate to → IsMove from (zigzag (to -ℤ from))
is_move from to parameter there = record {
  parameter = subst IsParameter (sym (unzigzag-zigzag (to -ℤ from))) parameter;
  there = subst IsCoordinate (sym (moved_to from to)) there;
}

-- a step of length 0 goes nowhere
stays : (from to : ℤ) → zigzag (to -ℤ from) ≡ 0 → from ≡ to
stays from to none =
    let difference : to -ℤ from ≡ pos 0 = zigzag_injective (to -ℤ from) (pos 0) none in
    omega (arith, ints)

-- the two positions are apart, where a step requires that
abbrev pub AreApartOn : Leg → Position → Position → Type 0
AreApartOn (to_point left) from to = Unit {0}
AreApartOn to_first from to = Unit {0}
AreApartOn (to_next left) from to = from ≢ to

-- so the step isn't (0, 0)
goes_elsewhere : (leg : Leg) (from to : Position) → AreApartOn leg from to → GoesElsewhere leg (zigzag (to.x -ℤ from.x)) (zigzag (to.y -ℤ from.y))
goes_elsewhere (to_point left) from to apart = tt
goes_elsewhere to_first from to apart = tt
goes_elsewhere (to_next left) from to apart = λ x y. apart (ap₂ position_at (stays from.x to.x x) (stays from.y to.y y))

-- one step
draws_step : (geometry_type : GeometryType) (leg : Leg) (from to : Position) (after : List Word) → IsStep from to → AreApartOn leg from to → Draws geometry_type (following geometry_type leg to) after → Draws geometry_type (step_x leg from) (step_words (id_of leg) from (to ∷ []) ++ after)
draws_step geometry_type leg from to after step apart draws = (
  refl,
  is_move from.x to.x step.x step.there.x,
  (
    refl,
    (is_move from.y to.y step.y step.there.y, goes_elsewhere leg from to apart),
    subst (λ (p : Position). Draws geometry_type (following geometry_type leg p) after) (sym (moved_there from to)) draws,
  ),
)

-- the steps of a LineTo
draws_line : (geometry_type : GeometryType) (left : ℕ) (from : Position) (positions : List Position) (after : List Word) → AreSteps from positions → AreApart from positions → length positions ≡ suc left → Draws geometry_type (after_path geometry_type (cursor from positions)) after → Draws geometry_type (step_x (to_next left) from) (step_words line_to from positions ++ after)
draws_line geometry_type left from [] after steps apart size draws = absurd (omega arith)
draws_line geometry_type zero from (to ∷ []) after steps apart size draws = draws_step geometry_type (to_next zero) from to after steps.0 apart.0 draws
draws_line geometry_type zero from (to ∷ other ∷ rest) after steps apart size draws = absurd (omega arith)
draws_line geometry_type (suc left) from (to ∷ rest) after steps apart size draws =
    draws_step geometry_type (to_next (suc left)) from to (step_words line_to to rest ++ after) steps.0 apart.0 (draws_line geometry_type left to rest after steps.1 apart.1 (omega arith) draws)

-- the steps of the points' MoveTo
draws_points : (geometry_type : GeometryType) (left : ℕ) (from : Position) (positions : List Position) → AreSteps from positions → length positions ≡ suc left → Draws geometry_type (step_x (to_point left) from) (step_words move_to from positions)
draws_points geometry_type left from [] steps size = absurd (omega arith)
draws_points geometry_type zero from (to ∷ []) steps size = draws_step geometry_type (to_point zero) from to [] steps.0 tt tt
draws_points geometry_type zero from (to ∷ other ∷ rest) steps size = absurd (omega arith)
draws_points geometry_type (suc left) from (to ∷ rest) steps size =
    draws_step geometry_type (to_point (suc left)) from to (step_words move_to to rest) steps.0 tt (draws_points geometry_type left to rest steps.1 (omega arith))

-- a command integer is its command, with its count
pub is_command : (id count fewest : ℕ) → id < 8 → fewest ≤ count → IsCount count → IsCommand id fewest (command_integer id count)
is_command id count fewest small enough counted =
    let whole : (8 * count + id) / 8 ≡ count = omega arith in
    record { fits = omega arith; enough = omega arith; counted = omega arith }

-- a line or ring has a further position at least
pub one_after : (geometry_type : GeometryType) → 1 ≤ least geometry_type
one_after point = omega arith
one_after line_string = omega arith
one_after polygon = omega arith

-- a line, or a ring without its end
draws_path : (geometry_type : GeometryType) (drawn : Bool) (from : Position) (part : List Position) (after : List Word) → IsPath (least geometry_type) from part → Draws geometry_type (after_path geometry_type (cursor from part)) after → Draws geometry_type (path_command drawn from) (path_words from part ++ after)
draws_path geometry_type drawn from [] after able draws = absurd able
draws_path geometry_type drawn from (first ∷ rest) after able draws =
    let some = one_after geometry_type in
    let enough = able.3 in (
      refl,
      refl,
      draws_step geometry_type to_first from first (word (command line_to) (command_integer line_to (length rest)) ∷ step_words line_to first rest ++ after) able.0 tt (
        refl,
        is_command line_to (length rest) (least geometry_type) (omega arith) able.3 able.4,
        draws_line geometry_type (command_integer line_to (length rest) / 8 - 1) first rest after able.1 able.2 (omega arith) draws,
      ),
    )

-- the words at the end of a line or ring
abbrev pub ending : GeometryType → List Word
ending point = []
ending line_string = []
ending polygon = word (command close_path) (command_integer close_path 1) ∷ []

-- the end of a line or ring
draws_ending : (geometry_type : GeometryType) (from : Position) (after : List Word) → Draws geometry_type (path_command true from) after → Draws geometry_type (after_path geometry_type from) (ending geometry_type ++ after)
draws_ending point from after draws = draws
draws_ending line_string from after draws = draws
draws_ending polygon from after draws = (refl, refl, draws)

-- lines or rings
draws_paths : (geometry_type : GeometryType) (drawn : Bool) (from : Position) (parts : List (List Position)) → ArePaths (least geometry_type) from parts → (length parts ≡ 0 → drawn ≡ true) → Draws geometry_type (path_command drawn from) (words_of_paths (ending geometry_type) from parts)
draws_paths geometry_type drawn from [] able some = some refl
draws_paths geometry_type drawn from (part ∷ rest) able some =
    draws_path geometry_type drawn from part _ able.0
    (draws_ending geometry_type (cursor from part) _ (draws_paths geometry_type true (cursor from part) rest able.1 (λ none. refl)))

-- a figure
pub draws_figure : (figure : Figure) → HasSpelling figure → Draws (type_of figure) (start (type_of figure)) (words figure)
draws_figure (points positions) able =
    let some = able.1 in (
      refl,
      is_command move_to (length positions) 1 (omega arith) able.1 able.2,
      draws_points point (command_integer move_to (length positions) / 8 - 1) origin positions able.0 (omega arith),
    )
draws_figure (lines parts) able = let some = able.1 in draws_paths line_string false origin parts able.0 (λ none. absurd (omega arith))
draws_figure (rings parts) able = let some = able.1 in draws_paths polygon false origin parts able.0 (λ none. absurd (omega arith))

-- Words that are drawn from the start to the end are the words of a figure.
use Rattle.std.proofs.Common.{◌≡◌, ℕ, zero, suc, ◌+◌, ◌-◌, ◌/◌, ◌<◌, ◌≤◌, Bool, true, false, List, [], ◌∷◌, ◌++◌, length, refl, sym, ◌∙◌, ap, ap₂, arith, length-append, true≢false}
use Rattle.mvt_plane.specs.Position.{Position, origin}
use Rattle.mvt_plane.specs.Commands.Figure.{GeometryType, point, line_string, polygon, Figure, points, lines, rings, type_of, move_to, line_to, close_path, command_integer, cursor, IsCount, AreSteps, AreApart, IsPath, ArePaths, HasSpelling}
use Rattle.mvt_plane.specs.Commands.CommandFault.{command, Word, word, step_words, path_words, words_of_paths, words}
use Rattle.mvt_plane.specs.Commands.Drawing.{to_first, path_command, line_command, start, least, IsCommand, after_path, Draws}
use Rattle.mvt_plane.proofs.Spelling.Figures.{ending, one_after}
use Rattle.mvt_plane.proofs.Spelling.WordsLeft.{same_word, step_residue, line_residue, points_residue}

-- a command integer from its id and its count
command_number : (id fewest n : ℕ) → IsCommand id fewest n → n ≡ command_integer id (n / 8)
command_number id fewest n fits = omega arith

-- The words of the LineTo of a line or ring, and others that are drawn after it
pub record FurtherResidue (geometry_type : GeometryType) (from : Position) (all : List Word) : Type 0 where
  pub positions : List Position
  pub after : List Word
  pub steps : AreSteps from positions
  pub apart : AreApart from positions
  pub enough : least geometry_type ≤ length positions
  pub counted : IsCount (length positions)
  pub split : all ≡ word (command line_to) (command_integer line_to (length positions)) ∷ step_words line_to from positions ++ after
  pub draws : Draws geometry_type (after_path geometry_type (cursor from positions)) after

further_residue : (geometry_type : GeometryType) (from : Position) (all : List Word) → Draws geometry_type (line_command from) all → FurtherResidue geometry_type from all
further_residue geometry_type from [] draws = absurd draws
further_residue geometry_type from (first ∷ rest) draws =
    let fits = draws.1 in
    let some = one_after geometry_type in
    let more = line_residue geometry_type (first.number / 8 - 1) from rest draws.2 in
    let size = more.size in
    let counts : first.number / 8 ≡ length more.positions = omega arith in
    let number : command_integer line_to (length more.positions) ≡ first.number = ap (command_integer line_to) (sym counts) ∙ sym (command_number line_to _ first.number fits) in
    record {
      positions = more.positions;
      after = more.after;
      steps = more.steps;
      apart = more.apart;
      enough = omega arith;
      counted = omega arith;
      split = ap₂ (λ (it : Word) (back : List Word). it ∷ back) (same_word (command line_to) _ first (cc) number) more.split;
      draws = more.draws;
    }

-- The words of a line, or of a ring without its end, and others that are drawn after it
pub record PathResidue (geometry_type : GeometryType) (from : Position) (all : List Word) : Type 0 where
  pub part : List Position
  pub after : List Word
  pub able : IsPath (least geometry_type) from part
  pub split : all ≡ path_words from part ++ after
  pub draws : Draws geometry_type (after_path geometry_type (cursor from part)) after

path_residue : (geometry_type : GeometryType) (drawn : Bool) (from : Position) (first : Word) (rest : List Word) → Draws geometry_type (path_command drawn from) (first ∷ rest) → PathResidue geometry_type from (first ∷ rest)
path_residue geometry_type drawn from first rest draws =
    let one = step_residue geometry_type to_first from rest draws.2 in
    let more = further_residue geometry_type one.to one.after one.draws in
    let head : first ≡ word (command move_to) (command_integer move_to 1) = same_word (command move_to) _ first (cc) (sym draws.1) in
    record {
      part = one.to ∷ more.positions;
      after = more.after;
      able = (one.step, more.steps, more.apart, more.enough, more.counted);
      split = ap₂ (λ (it : Word) (back : List Word). it ∷ back) head (one.split ∙ ap (λ (back : List Word). step_words move_to from (one.to ∷ []) ++ back) more.split);
      draws = more.draws;
    }

-- the words at the end of a line or ring, and others that are drawn after it
ending_residue : (geometry_type : GeometryType) (from : Position) (all : List Word) → Draws geometry_type (after_path geometry_type from) all → (after : List Word) × (all ≡ ending geometry_type ++ after) × Draws geometry_type (path_command true from) after
ending_residue point from all draws = (all, refl, draws)
ending_residue line_string from all draws = (all, refl, draws)
ending_residue polygon from [] draws = absurd draws
ending_residue polygon from (first ∷ rest) draws =
    (rest, ap (λ (it : Word). it ∷ rest) (same_word (command close_path) _ first (cc) (sym draws.1)), draws.2)

-- The words of lines or rings, of one at least where none is drawn yet
pub record PathsResidue (geometry_type : GeometryType) (drawn : Bool) (from : Position) (all : List Word) : Type 0 where
  pub parts : List (List Position)
  pub able : ArePaths (least geometry_type) from parts
  pub split : all ≡ words_of_paths (ending geometry_type) from parts
  pub some : length parts ≡ 0 → drawn ≡ true

-- a line or ring takes words
path_shorter : (least : ℕ) (from : Position) (part : List Position) (after : List Word) → IsPath least from part → length after < length (path_words from part ++ after)
path_shorter least from [] after able = absurd able
path_shorter least from (first ∷ rest) after able = omega (arith, length-append (step_words line_to first rest) after)

-- by the number of words that are left
paths_residue : (most : ℕ) (geometry_type : GeometryType) (drawn : Bool) (from : Position) (all : List Word) → length all ≤ most → Draws geometry_type (path_command drawn from) all → PathsResidue geometry_type drawn from all
paths_residue most geometry_type drawn from [] few draws = record { parts = []; able = tt; split = refl; some = λ none. draws }
paths_residue zero geometry_type drawn from (first ∷ rest) few draws = absurd (omega arith)
paths_residue (suc most) geometry_type drawn from (first ∷ rest) few draws =
    let one = path_residue geometry_type drawn from first rest draws in
    let end = ending_residue geometry_type (cursor from one.part) one.after one.draws in
    let shorter = path_shorter (least geometry_type) from one.part one.after one.able in
    let whole = ap (λ (ws : List Word). length ws) one.split in
    let back : length one.after ≡ length (ending geometry_type) + length end.0 = ap (λ (ws : List Word). length ws) end.1 ∙ length-append (ending geometry_type) end.0 in
    let more = paths_residue most geometry_type true (cursor from one.part) end.0 (omega arith) end.2 in
    record {
      parts = one.part ∷ more.parts;
      able = (one.able, more.able);
      split = one.split ∙ ap (λ (ws : List Word). path_words from one.part ++ ws) (end.1 ∙ ap (λ (ws : List Word). ending geometry_type ++ ws) more.split);
      some = λ none. absurd (omega arith);
    }

-- there is one
some_parts : (parts : List (List Position)) → (length parts ≡ 0 → false ≡ true) → 1 ≤ length parts
some_parts [] some = absurd (true≢false (sym (some refl)))
some_parts (part ∷ rest) some = omega arith

-- The words of a figure that has a spelling
pub record DrawnFigure (geometry_type : GeometryType) (all : List Word) : Type 0 where
  pub figure : Figure
  pub kind : type_of figure ≡ geometry_type
  pub able : HasSpelling figure
  pub split : all ≡ words figure

pub drawn_figure : (geometry_type : GeometryType) (all : List Word) → Draws geometry_type (start geometry_type) all → DrawnFigure geometry_type all
drawn_figure point [] draws = absurd draws
drawn_figure point (first ∷ rest) draws =
    let fits = draws.1 in
    let more = points_residue point (first.number / 8 - 1) origin rest draws.2 in
    let size = more.size in
    let counts : first.number / 8 ≡ length more.positions = omega arith in
    let number : command_integer move_to (length more.positions) ≡ first.number = ap (command_integer move_to) (sym counts) ∙ sym (command_number move_to _ first.number fits) in
    record {
      figure = points more.positions;
      kind = refl;
      able = (more.steps, omega arith, omega arith);
      split = ap₂ (λ (it : Word) (back : List Word). it ∷ back) (same_word (command move_to) _ first (cc) number) more.split;
    }
drawn_figure line_string all draws =
    let more = paths_residue (length all) line_string false origin all (omega arith) draws in
    record { figure = lines more.parts; kind = refl; able = (more.able, some_parts more.parts more.some); split = more.split }
drawn_figure polygon all draws =
    let more = paths_residue (length all) polygon false origin all (omega arith) draws in
    record { figure = rings more.parts; kind = refl; able = (more.able, some_parts more.parts more.some); split = more.split }

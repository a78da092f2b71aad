-- The numbers of words are the spelling.
use Rattle.std.proofs.Common.{◌≡◌, ℕ, List, [], ◌∷◌, ◌++◌, map, refl, ◌∙◌, ap, ap₂}
use Rattle.std.proofs.lemmas.List.{map-append}
use Rattle.mvt_plane.specs.Position.{Position, origin}
use Rattle.mvt_plane.specs.Commands.Figure.{Figure, points, lines, rings, move_to, line_to, close_path, command_integer, steps, path, cursor, paths, spelling}
use Rattle.mvt_plane.specs.Commands.CommandFault.{Word, word, command, step_words, path_words, words_of_paths, words}

-- the numbers of words
abbrev pub numbers_of : List Word → List ℕ
numbers_of = map (λ (it : Word). it.number)

-- those of steps are the steps
pub numbers_of_steps : (id : ℕ) (from : Position) (positions : List Position) → numbers_of (step_words id from positions) ≡ steps from positions
numbers_of_steps id from [] = refl
numbers_of_steps id from (to ∷ rest) = rw (numbers_of_steps id to rest)

-- those of a line or ring are its path
pub numbers_of_path : (from : Position) (positions : List Position) → numbers_of (path_words from positions) ≡ path from positions
numbers_of_path from [] = refl
numbers_of_path from (first ∷ rest) = rw (numbers_of_steps line_to first rest)

-- those of lines or rings are their paths
pub numbers_of_paths : (ending : List Word) (from : Position) (parts : List (List Position)) → numbers_of (words_of_paths ending from parts) ≡ paths (numbers_of ending) from parts
numbers_of_paths ending from [] = refl
numbers_of_paths ending from (part ∷ rest) =
    let number = λ (it : Word). it.number in
    map-append number (path_words from part) (ending ++ words_of_paths ending (cursor from part) rest)
    ∙ ap₂ (λ (front back : List ℕ). front ++ back) (numbers_of_path from part)
    (map-append number ending (words_of_paths ending (cursor from part) rest) ∙ ap (λ (back : List ℕ). numbers_of ending ++ back) (numbers_of_paths ending (cursor from part) rest))

-- those of a figure are its spelling
pub words_spell : (figure : Figure) → numbers_of (words figure) ≡ spelling figure
words_spell (points positions) = rw (numbers_of_steps move_to origin positions)
words_spell (lines parts) = numbers_of_paths [] origin parts
words_spell (rings parts) = numbers_of_paths (word (command close_path) (command_integer close_path 1) ∷ []) origin parts

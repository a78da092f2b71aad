-- Lines and rings that are spelled in part: what was pushed, with the spelling of what is left, is the spelling of the whole.
use Rattle.std.proofs.Common.{◌≡◌, ℕ, List, [], ◌∷◌, ◌++◌, ◌+◌, ◌-◌, ◌-ℤ◌, ◌<◌, ◌≤◌, ◌==◌, false, Result, length, map, get_or, take, drop, ◌∙◌, sym, ap, subst, append_assoc, append-nil, refl, arith}
use Rattle.std.proofs.lemmas.List.{drop_all, take_all}
use Rattle.std.specs.Result.{IfOk}
use Rattle.std.proofs.lemmas.Result.{IfOk-weaker}
use Rattle.mvt_plane.specs.Commands.Figure.{AreApart, ArePaths, AreSteps, IsCount, IsPath, IsStep, command_integer, cursor, line_to, move_to, path, paths, steps, zigzag}
use Rattle.mvt_plane.specs.Position.{Position}
use Rattle.mvt_draw.proofs.SpellingSteps.{drop_from}

-- after the numbers before, the lines or rings from a position are spelled up to the last position, and these are left
pub record ArePathsTo (least : ℕ) (ending before : List ℕ) (from : Position) (all : List (List Position)) (numbers : List ℕ) (last : Position) (rest : List (List Position)) : Type 0 where
  pub spelled : before ++ paths ending from all ≡ numbers ++ paths ending last rest
  pub able : ArePaths least last rest → ArePaths least from all
  pub left : ArePaths least from all → ArePaths least last rest

-- before the first one
pub ArePathsTo-begun : (least : ℕ) (ending before : List ℕ) (from : Position) (all : List (List Position)) → ArePathsTo least ending before from all before from all
ArePathsTo-begun least ending before from all = record { spelled = refl; able = λ parts. parts; left = λ parts. parts }

-- the next one is that which is at the place
pub ArePathsTo-at : {Part : Type 0} (positions : Part → List Position) (least : ℕ) (ending before : List ℕ) (from : Position) (all : List Part) (numbers : List ℕ) (last : Position) (part : Part) (place : ℕ)
    → ArePathsTo least ending before from (map positions all) numbers last (map positions (drop place all)) → place < length all → part ≡ get_or all place part
    → ArePathsTo least ending before from (map positions all) numbers last (positions part ∷ map positions (drop (place + 1) all))
ArePathsTo-at {Part} positions least ending before from all numbers last part place so_far within is =
    subst (λ (rest : List Part). ArePathsTo least ending before from (map positions all) numbers last (map positions rest)) (drop_from all place part within is) so_far

-- one further, with its ending
pub ArePathsTo-on : (least : ℕ) (ending before : List ℕ) (from : Position) (all : List (List Position)) (numbers : List ℕ) (last : Position) (part : List Position) (rest : List (List Position)) (more : List ℕ)
    → ArePathsTo least ending before from all numbers last (part ∷ rest) → IsPath least last part → more ≡ (numbers ++ path last part) ++ ending
    → ArePathsTo least ending before from all more (cursor last part) rest
ArePathsTo-on least ending before from all numbers last part rest more so_far is pushed =
    let others = paths ending (cursor last part) rest in
    record {
      spelled =
          so_far.spelled ∙ sym (append_assoc numbers (path last part) (ending ++ others)) ∙ sym (append_assoc (numbers ++ path last part) ending others)
          ∙ ap (λ (list : List ℕ). list ++ others) (sym pushed);
      able = λ parts. so_far.able (is, parts);
      left = λ whole. (so_far.left whole).1;
    }

-- after the place of the last one
pub ArePathsTo-whole : {Part : Type 0} (positions : Part → List Position) (least : ℕ) (ending before : List ℕ) (from : Position) (all : List Part) (numbers : List ℕ) (last : Position) (place : ℕ)
    → ArePathsTo least ending before from (map positions all) numbers last (map positions (drop place all)) → length all ≤ place
    → ArePaths least from (map positions all) × (numbers ≡ before ++ paths ending from (map positions all))
ArePathsTo-whole {Part} positions least ending before from all numbers last place so_far following =
    let over : ArePathsTo least ending before from (map positions all) numbers last [] =
    subst (λ (rest : List Part). ArePathsTo least ending before from (map positions all) numbers last (map positions rest)) (drop_all place all following) so_far in
    (over.able tt, sym (over.spelled ∙ append-nil numbers))

-- a list that isn't empty has one or more
pub some_parts : {Part : Type 0} (positions : Part → List Position) (all : List Part) → false ≡ (length all == 0) → 1 ≤ length (map positions all)
some_parts positions [] some = cc
some_parts positions (part ∷ all) some = omega arith

-- a list that isn't empty is its first item and the others
pub first_and_others : (positions : List Position) (first : Position) → 1 ≤ length positions → first ≡ get_or positions 0 first → positions ≡ first ∷ take (length positions - 1) (drop 1 positions)
first_and_others [] first some is = absurd (omega arith)
first_and_others (position ∷ others) first some is =
    let so_many : length others ≡ length (position ∷ others) - 1 = omega arith in
    (λ i. sym is i ∷ sym (take_all (length others) others (omega arith)) i) ∙ ap (λ (count : ℕ). first ∷ take count others) so_many

-- a line or ring, spelled command by command
pub path_spelled : {E : Type 0} (least : ℕ) (from first : Position) (rest : List Position) (none begun stepped counted all : List ℕ) (last : Result Position E)
    → begun ≡ none ++ command_integer move_to 1 ∷ [] → IsStep from first × (stepped ≡ begun ++ zigzag (first.x -ℤ from.x) ∷ zigzag (first.y -ℤ from.y) ∷ [])
    → IsCount (length rest) × (counted ≡ stepped ++ command_integer line_to (length rest) ∷ [])
    → IfOk last (λ it. AreSteps first rest × (all ≡ counted ++ steps first rest) × (it ≡ cursor first rest))
    → AreApart first rest → least ≤ length rest
    → IfOk last (λ it. IsPath least from (first ∷ rest) × (all ≡ none ++ path from (first ∷ rest)) × (it ≡ cursor from (first ∷ rest)))
path_spelled least from first rest none begun stepped counted all last begins steps_first counts further apart long =
    IfOk-weaker last _ _
    (λ it told. ((steps_first.0, told.0, apart, long, counts.0), rw (told.1, counts.1, steps_first.1, begins) (simp append_assoc), told.2))
    further

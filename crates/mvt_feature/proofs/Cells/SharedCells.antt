-- Numbers that share their cells: of each cell one number is kept, and each number that isn't the one kept of its cell is
-- marked, with the one that is.
use Rattle.std.proofs.Common.{◌≡◌, ◌≢◌, ℕ, ◌+◌, ◌<◌, Bool, true, false, List, length, get_or, set, sym, ◌∙◌, subst, arith, below_more}
use Rattle.std.proofs.Math.ListN.{length-set}
use Rattle.std.proofs.lemmas.Grind.{common_steps}
use Rattle.std.proofs.lemmas.Option.{same_Some, slice_get-get_or}
use Rattle.mvt_feature.specs.Calls.Cells.{AreCells}

-- the number kept of the cell of a number
abbrev pub owner_of : List ℕ → List ℕ → ℕ → ℕ
owner_of cells owners number = get_or owners (get_or cells number 0) 0

-- this number is marked
abbrev pub IsMarked : List Bool → ℕ → Type 0
IsMarked marks number = get_or marks number false ≡ true

-- the numbers before this one are checked
pub record AreMarkedTo (cells owners : List ℕ) (to : ℕ) (marks : List Bool) : Type 0 where
  pub size : length marks ≡ length cells
  pub own : (number : ℕ) → number < to → owner_of cells owners number ≢ number → IsMarked marks number
  pub kept : (number : ℕ) → number < to → owner_of cells owners number ≢ number → IsMarked marks (owner_of cells owners number)

-- a mark more changes no mark
still_marked : (marks : List Bool) (at number : ℕ) → IsMarked marks number → IsMarked (set marks at true) number
still_marked marks at number is = grind (arith, common_steps, is)

-- it marks this number
now_marked : (marks : List Bool) (at : ℕ) → at < length marks → IsMarked (set marks at true) at
now_marked marks at within = grind (arith, common_steps)

-- a number is checked that isn't the one kept
two_marked : (cells owners : List ℕ) (number : ℕ) (marks : List Bool) → AreMarkedTo cells owners number marks → number < length cells → owner_of cells owners number < length cells
    → AreMarkedTo cells owners (number + 1) (set (set marks (owner_of cells owners number) true) number true)
two_marked cells owners number marks before within kept =
    let owner = owner_of cells owners number in
    let once = set marks owner true in
    let first : length once ≡ length marks = length-set marks owner true in
    let second : length (set once number true) ≡ length once = length-set once number true in
    let size = before.size in
    let keeps = λ (at : ℕ) (is : IsMarked marks at). still_marked once number at (still_marked marks owner at is) in
    record {
      size = omega arith;
      own = below_more _ _ (λ other below differ. keeps other (before.own other below differ)) (λ _. now_marked once number (omega arith));
      kept = below_more _ _ (λ other below differ. keeps (owner_of cells owners other) (before.kept other below differ)) (λ _. still_marked once number owner (now_marked marks owner (omega arith)));
    }

-- the one that is kept is passed by
not_marked : (cells owners : List ℕ) (number : ℕ) (marks : List Bool) → AreMarkedTo cells owners number marks → owner_of cells owners number ≡ number → AreMarkedTo cells owners (number + 1) marks
not_marked cells owners number marks before same = record {
  size = before.size;
  own = below_more _ _ before.own (λ differ. absurd (differ same));
  kept = below_more _ _ before.kept (λ differ. absurd (differ same));
}

-- ---- as the code reads the number kept

-- it is the number kept of the cell
owner_read : (cells owners : List ℕ) (number owner : ℕ) → AreCells (length cells) cells → AreCells (length cells) owners → number < length cells → owner ≡ get_or owners (get_or cells number 0) owner
    → owner ≡ owner_of cells owners number
owner_read cells owners number owner known kept within read =
    let cell = get_or cells number 0 in
    let below = known.below number within in
    let size = kept.size in
    let inside : cell < length owners = omega arith in
    read ∙ same_Some (get_or owners cell owner) (get_or owners cell 0) (sym (slice_get-get_or owners cell owner inside) ∙ slice_get-get_or owners cell 0 inside)

-- it is another one
pub read_marked : (cells owners : List ℕ) (number owner : ℕ) (marks : List Bool) → AreCells (length cells) cells → AreCells (length cells) owners → number < length cells
    → owner ≡ get_or owners (get_or cells number 0) owner → AreMarkedTo cells owners number marks → AreMarkedTo cells owners (number + 1) (set (set marks owner true) number true)
read_marked cells owners number owner marks known kept within read before =
    let is = owner_read cells owners number owner known kept within read in
    let below = kept.below (get_or cells number 0) (known.below number within) in
    subst (λ (owner : ℕ). AreMarkedTo cells owners (number + 1) (set (set marks owner true) number true)) (sym is) (two_marked cells owners number marks before within below)

-- it is the number itself
pub read_passed : (cells owners : List ℕ) (number owner : ℕ) (marks : List Bool) → AreCells (length cells) cells → AreCells (length cells) owners → number < length cells
    → owner ≡ get_or owners (get_or cells number 0) owner → owner ≡ number → AreMarkedTo cells owners number marks → AreMarkedTo cells owners (number + 1) marks
read_passed cells owners number owner marks known kept within read same before =
    not_marked cells owners number marks before (sym (owner_read cells owners number owner known kept within read) ∙ same)

-- Lists that are gathered of the pieces that are marked.
use Rattle.std.proofs.Common.{◌≡◌, ℕ, zero, suc, ◌+◌, ◌-◌, ◌<◌, ◌≤◌, ◌⊎◌, inl, inr, Bool, true, false, cond, List, [], ◌∷◌, ◌++◌, length, slice_get, slice_index_or, refl, sym, ◌∙◌, ap, arith}
use Rattle.std.proofs.lemmas.Bool.{cases_lt}
use Rattle.std.proofs.lemmas.List.{length-append}
use Rattle.mvt_feature.specs.Calls.Gathered.{gathered}

-- Marks

-- the piece of this number is marked
abbrev pub IsMarked : List Bool → ℕ → Type 0
IsMarked marks number = slice_index_or marks number false ≡ true

-- it isn't
abbrev pub IsUnmarked : List Bool → ℕ → Type 0
IsUnmarked marks number = slice_index_or marks number false ≡ false

-- a test passes or fails
either_mark : (mark : Bool) → (mark ≡ true) ⊎ (mark ≡ false)
either_mark true = inl refl
either_mark false = inr refl

-- it is one or the other
pub marked_or_not : (marks : List Bool) (number : ℕ) → IsMarked marks number ⊎ IsUnmarked marks number
marked_or_not marks number = either_mark (slice_index_or marks number false)

-- Pieces

-- nothing more
nothing_more : {X : Type 0} (xs : List X) → xs ++ [] ≡ xs
nothing_more [] = refl
nothing_more (x ∷ xs) = ap (λ (rest : List _). x ∷ rest) (nothing_more xs)

-- a marked piece comes after those before it
pub gathered_marked : {X : Type 0} (marks : List Bool) (piece : ℕ → List X) (number : ℕ) (before : List X) → before ≡ gathered marks piece number → IsMarked marks number
    → before ++ piece number ≡ gathered marks piece (number + 1)
gathered_marked {X = X} marks piece number before is marked =
    let next : suc number ≡ number + 1 = omega arith in
    ap (λ (its : List X). its ++ piece number) is ∙ ap (λ (mark : Bool). gathered marks piece number ++ cond mark (piece number) []) (sym marked) ∙ ap (gathered marks piece) next

-- another one doesn't
pub gathered_unmarked : {X : Type 0} (marks : List Bool) (piece : ℕ → List X) (number : ℕ) (before : List X) → before ≡ gathered marks piece number → IsUnmarked marks number
    → before ≡ gathered marks piece (number + 1)
gathered_unmarked {X = X} marks piece number before is unmarked =
    let next : suc number ≡ number + 1 = omega arith in
    is ∙ sym (nothing_more (gathered marks piece number)) ∙ ap (λ (mark : Bool). gathered marks piece number ++ cond mark (piece number) []) (sym unmarked) ∙ ap (gathered marks piece) next

-- Counts

-- the sum of the counts of the pieces that are marked, of those before this number
abbrev pub total_of : List Bool → (ℕ → ℕ) → ℕ → ℕ
total_of marks count zero = 0
total_of marks count (suc number) = total_of marks count number + cond (slice_index_or marks number false) (count number) 0

module _ (marks : List Bool) (count : ℕ → ℕ) where
  -- after a marked one
  pub total_marked : (number : ℕ) → IsMarked marks number → total_of marks count (suc number) ≡ total_of marks count number + count number
  total_marked number marked = ap (λ (mark : Bool). total_of marks count number + cond mark (count number) 0) marked

  -- after another one
  pub total_unmarked : (number : ℕ) → IsUnmarked marks number → total_of marks count (suc number) ≡ total_of marks count number
  total_unmarked number unmarked =
      let sum : total_of marks count (suc number) ≡ total_of marks count number + 0 = ap (λ (mark : Bool). total_of marks count number + cond mark (count number) 0) unmarked in
      omega arith

  -- it never falls
  pub total_up : (number other : ℕ) → number ≤ other → total_of marks count number ≤ total_of marks count other
  total_up number zero up = let same : number ≡ 0 = omega arith in let e = ap (total_of marks count) same in omega arith
  total_up number (suc other) up = elim (cases_lt number (suc other)) [
    | inl less ↦ let before : total_of marks count number ≤ total_of marks count other = total_up number other (omega arith) in omega arith
    | inr last ↦ let same : number ≡ suc other = omega arith in let e = ap (total_of marks count) same in omega arith
  ]

  -- a marked piece ends before each later one begins
  pub total_after : (number other : ℕ) → number < other → IsMarked marks number → total_of marks count number + count number ≤ total_of marks count other
  total_after number other less marked =
      let ends : total_of marks count (suc number) ≡ total_of marks count number + count number = total_marked number marked in
      let up : total_of marks count (suc number) ≤ total_of marks count other = total_up (suc number) other less in
      omega arith

  -- what is below the sum is in one of the pieces
  pub home_in : (other place : ℕ) → place < total_of marks count other → (number : ℕ) × (at : ℕ) × (number < other) × IsMarked marks number × (at < count number) × (place ≡ total_of marks count number + at)
  home_in zero place below = absurd (omega arith)
  home_in (suc other) place below = elim (cases_lt place (total_of marks count other)) [
    | inl earlier ↦ let home = home_in other place earlier in let less : home.0 < other = home.2 in (home.0, home.1, omega arith, home.3, home.4, home.5)
    | inr last ↦ elim (marked_or_not marks other) [
      | inl marked ↦ let ends = total_marked other marked in (other, place - total_of marks count other, omega arith, marked, omega arith, omega arith)
      | inr unmarked ↦ let same = total_unmarked other unmarked in absurd (omega arith)
    ]
  ]

-- Lists

-- what is at a place of the first of two lists
pub get_left : {X : Type 0} (xs ys : List X) (place : ℕ) → place < length xs → slice_get (xs ++ ys) place ≡ slice_get xs place
get_left [] ys place within = absurd (omega arith)
get_left (x ∷ xs) ys zero within = refl
get_left (x ∷ xs) ys (suc place) within = get_left xs ys place (omega arith)

-- and of the second
pub get_right : {X : Type 0} (xs ys : List X) (at place : ℕ) → place ≡ length xs + at → slice_get (xs ++ ys) place ≡ slice_get ys at
get_right [] ys at place is = ap (slice_get ys) (omega arith)
get_right (x ∷ xs) ys at zero is = absurd (omega arith)
get_right (x ∷ xs) ys at (suc place) is = get_right xs ys at place (omega arith)

-- how long a list is that is chosen or not
length_chosen : {X : Type 0} (mark : Bool) (xs : List X) (count : ℕ) → length xs ≡ count → length (cond mark xs []) ≡ cond mark count 0
length_chosen true xs count same = same
length_chosen false xs count same = refl

module _ {X : Type 0} (marks : List Bool) (piece : ℕ → List X) (count : ℕ → ℕ) (many : ℕ) (counts : (number : ℕ) → number < many → length (piece number) ≡ count number) where
  -- how long the gathered list is
  pub length_gathered : (number : ℕ) → number ≤ many → length (gathered marks piece number) ≡ total_of marks count number
  length_gathered zero within = refl
  length_gathered (suc number) within =
      let mark = slice_index_or marks number false in
      omega (arith, length-append (gathered marks piece number) (cond mark (piece number) []), length_chosen mark (piece number) (count number) (counts number within), length_gathered number (omega arith))

  -- what is gathered stays
  stays : (number other place : ℕ) → number ≤ other → other ≤ many → place < total_of marks count number → slice_get (gathered marks piece other) place ≡ slice_get (gathered marks piece number) place
  stays number zero place up within below = let same : 0 ≡ number = omega arith in ap (λ (n : ℕ). slice_get (gathered marks piece n) place) same
  stays number (suc other) place up within below = elim (cases_lt number (suc other)) [
    | inl less ↦
        let all = length_gathered other (omega arith) in
        let more = total_up marks count number other (omega arith) in
        get_left (gathered marks piece other) (cond (slice_index_or marks other false) (piece other) []) place (omega arith) ∙ stays number other place (omega arith) (omega arith) below
    | inr last ↦ let same : suc other ≡ number = omega arith in ap (λ (n : ℕ). slice_get (gathered marks piece n) place) same
  ]

  -- a marked piece in what is gathered up to it
  is_last : (number at : ℕ) → number < many → IsMarked marks number → slice_get (gathered marks piece (suc number)) (total_of marks count number + at) ≡ slice_get (piece number) at
  is_last number at within marked =
      let all = length_gathered number (omega arith) in
      get_right (gathered marks piece number) (cond (slice_index_or marks number false) (piece number) []) at (total_of marks count number + at) (omega arith)
      ∙ ap (λ (mark : Bool). slice_get (cond mark (piece number) []) at) marked

  -- and in all
  pub gathered_at : (number other at : ℕ) → number < other → other ≤ many → IsMarked marks number → at < count number → slice_get (gathered marks piece other) (total_of marks count number + at) ≡ slice_get (piece number) at
  gathered_at number other at less within marked below =
      let ends = total_marked marks count number marked in
      stays (suc number) other (total_of marks count number + at) less within (omega arith) ∙ is_last number at (omega arith) marked

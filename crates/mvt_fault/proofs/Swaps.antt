-- The elements of a list of which two changed their places.
use Rattle.std.proofs.Common.{◌≡◌, ◌≢◌, ◌∙◌, sym, ap, refl, ℕ, ◌<◌, ◌==◌, cond, List, length, get_or, slice_get, Some, ◌⊎◌, inl, inr, arith}
use Rattle.std.specs.List.{swap}
use Rattle.std.proofs.lemmas.Bool.{cases_lt}
use Rattle.std.proofs.lemmas.Bool.Decides.{nat_tests}
use Rattle.std.proofs.lemmas.List.Edits.{swapped_from_swap}
use Rattle.std.proofs.lemmas.List.Sorted.{IsPermutation-swap, length_permutation}
use Rattle.std.proofs.lemmas.Option.{slice_get_past, slice_get-get_or}

-- where an element was before two changed their places
abbrev pub place_before : ℕ → ℕ → ℕ → ℕ
place_before one other at = cond (at == one) other (cond (at == other) one at)

-- two such changes lead back
pub place_twice : (one other at : ℕ) → place_before one other (place_before one other at) ≡ at
place_twice one other at = grind (arith, nat_tests)

-- the three cases of a place
place_is : (one other at : ℕ) → ((at ≡ one) × (place_before one other at ≡ other))
    ⊎ (((at ≡ other) × (place_before one other at ≡ one)) ⊎ ((at ≢ one) × (at ≢ other) × (place_before one other at ≡ at)))
place_is one other at = grind (arith, nat_tests)

-- lists of one length, read at their places
module _ {X : Type 0} (xs ys : List X) (size : length ys ≡ length xs) (d : X) where
  same_reads : (at place : ℕ) → at < length xs → place < length xs → get_or ys at d ≡ get_or xs place d → slice_get ys at ≡ slice_get xs place
  same_reads at place below within same = slice_get-get_or ys at d (omega (arith, size)) ∙ ap Some same ∙ sym (slice_get-get_or xs place d within)

  same_place : (at : ℕ) → get_or ys at d ≡ get_or xs at d → slice_get ys at ≡ slice_get xs at
  same_place at same = elim (cases_lt at (length xs)) [
    | inl below ↦ same_reads at at below below same
    | inr past ↦ slice_get_past ys at (omega (arith, size)) ∙ sym (slice_get_past xs at (omega arith))
  ]

-- the element at a place, where two changed theirs
pub swap_get : {X : Type 0} (xs : List X) (d : X) (one other at : ℕ) → one < length xs → other < length xs → slice_get (swap xs one other) at ≡ slice_get xs (place_before one other at)
swap_get xs d one other at first second =
    let ys = swap xs one other in
    let size = length_permutation xs ys (IsPermutation-swap xs ys one other first second refl) in
    let reads = swapped_from_swap xs ys one other d first second refl in
    elim (place_is one other at) [
      | inl is ↦ ap (slice_get ys) is.0 ∙ same_reads xs ys size d one other first second reads.0 ∙ ap (slice_get xs) (sym is.1)
      | inr (inl is) ↦ ap (slice_get ys) is.0 ∙ same_reads xs ys size d other one second first reads.1 ∙ ap (slice_get xs) (sym is.1)
      | inr (inr is) ↦ same_place xs ys size d at (reads.2 at is.0 is.1) ∙ ap (slice_get xs) (sym is.2)
    ]

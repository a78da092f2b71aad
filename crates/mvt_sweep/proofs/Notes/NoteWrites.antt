-- Lists of notes, as the code writes them.
use Rattle.std.proofs.Common.{◌≡◌, ◌≢◌, ◌%◌, ◌==◌, ◌<◌, inl, inr, ◌⊎◌, ℕ, zero, suc, Bool, not, List, [], ◌∷◌, ◌++◌, length, set, slice_get, true, false, Some, refl, sym, ◌∙◌, ap, arith}
use Rattle.std.proofs.Math.Seq.{get_or-append_seam}
use Rattle.std.proofs.lemmas.Bool.{cases_lt}
use Rattle.std.proofs.lemmas.Bool.Decides.{nat_tests}
use Rattle.std.proofs.lemmas.List.{length-append, length-set, get_or-set_other, get_or-set_same, get_or_append_left}
use Rattle.std.proofs.lemmas.Option.{same_Some, slice_get_past, slice_get_within, slice_get-get_or}
use Rattle.mvt_sweep.specs.Calls.RingsBelow.{is_odd_number}
use Rattle.mvt_sweep.specs.Calls.RingNotes.{around_directly}
use Rattle.mvt_sweep.specs.RingsAround.{nearest_in, odd_in}
use Rattle.mvt_sweep.specs.declared.sweep.notes.Around.TheVariants.{Unknown}

-- A note that is written

-- what is set is read
pub set_here : {A : Type 0} (notes : List A) (ring : ℕ) (written : A) → ring < length notes → slice_get (set notes ring written) ring ≡ Some written
set_here notes ring written within =
    slice_get-get_or (set notes ring written) ring written (omega (arith, length-set notes ring written)) ∙ ap Some (get_or-set_same notes ring written written within)

-- and the others are as before
pub set_others : {A : Type 0} (notes : List A) (ring other : ℕ) (written : A) → other ≢ ring → slice_get (set notes ring written) other ≡ slice_get notes other
set_others notes ring other written differ = elim (cases_lt other (length notes)) [
  | inl within ↦ slice_get-get_or (set notes ring written) other written (omega (arith, length-set notes ring written)) ∙ ap Some (get_or-set_other notes ring other written written differ)
      ∙ sym (slice_get-get_or notes other written within)
  | inr past ↦ slice_get_past (set notes ring written) other (omega (arith, length-set notes ring written)) ∙ sym (slice_get_past notes other past)
]

-- A list that goes on

-- what was there is there
pub goes_on : (before more : List ℕ) (at number : ℕ) → slice_get before at ≡ Some number → slice_get (before ++ more) at ≡ Some number
goes_on before more at number there =
    let within = slice_get_within before at number there in
    slice_get-get_or (before ++ more) at 0 (omega (arith, within, length-append before more)) ∙ ap Some (get_or_append_left before more 0 at within)
    ∙ sym (slice_get-get_or before at 0 within) ∙ there

-- the next one is later
pub next_there : (before : List ℕ) (number : ℕ) → slice_get (before ++ number ∷ []) (length before) ≡ Some number
next_there before number =
    slice_get-get_or (before ++ number ∷ []) (length before) 0 (omega (arith, length-append before (number ∷ []))) ∙ ap Some (get_or-append_seam before number [] 0)

-- a number there was there, or is the next one
pub there_or_next : (before : List ℕ) (number at it : ℕ) → slice_get (before ++ number ∷ []) at ≡ Some it → (slice_get before at ≡ Some it) ⊎ ((at ≡ length before) × (it ≡ number))
there_or_next before number at it there = elim (cases_lt at (length before)) [
  | inl within ↦ inl
      (slice_get-get_or before at 0 within ∙ ap Some (sym (get_or_append_left before (number ∷ []) 0 at within))
      ∙ sym (slice_get-get_or (before ++ number ∷ []) at 0 (omega (arith, within, length-append before (number ∷ [])))) ∙ there)
  | inr following ↦
      let inside = slice_get_within (before ++ number ∷ []) at it there in
      let same : at ≡ length before = omega (arith, inside, following, length-append before (number ∷ [])) in
      inr (same, same_Some it number (sym there ∙ ap (slice_get (before ++ number ∷ [])) same ∙ next_there before number))
]

-- Odd numbers

-- one more turns the test of the remainder by 2
turned : (number : ℕ) → (suc number % 2 == 1) ≡ not (number % 2 == 1)
turned number = grind (arith, nat_tests)

-- a number with a remainder of 1 by 2 is odd
pub odd_by_two : (number : ℕ) → (number % 2 == 1) ≡ is_odd_number number
odd_by_two zero = refl
odd_by_two (suc number) = turned number ∙ ap not (odd_by_two number)

-- A ring directly around

-- it is the nearest
pub nearest_directly : (nearest : ℕ) (odd : Bool) → nearest_in (around_directly nearest odd) ≡ Some nearest
nearest_directly nearest true = refl
nearest_directly nearest false = refl

-- and an odd number are around, or an even one
pub odd_directly : (nearest : ℕ) (odd : Bool) → odd_in (around_directly nearest odd) ≡ odd
odd_directly nearest true = refl
odd_directly nearest false = refl

-- which is known
pub known_directly : (nearest : ℕ) (odd : Bool) → around_directly nearest odd ≢ Unknown
known_directly nearest true same = cc
known_directly nearest false same = cc

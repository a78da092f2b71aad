-- Numbers of which no two are equal, all less than a bound: a test holds of no more of them than of all numbers less than the bound.
use Rattle.std.proofs.Common.{◌≡◌, ℕ, zero, suc, ◌+◌, ◌<◌, ◌≤◌, Bool, true, false, cond, ◌&&◌, ◌||◌, List, [], ◌∷◌, eqb, length, slice_get, Some, refl, sym, ◌∙◌, ap, arith}
use Rattle.std.proofs.lemmas.Bool.{eqb-true, ne_eqb}
use Rattle.std.proofs.lemmas.Bool.Decides.{nat_tests}
use Rattle.std.proofs.lemmas.Cmp.{nat_eq_equiv}
use Rattle.std.proofs.lemmas.List.Sums.{length-filter}
use Rattle.std.proofs.lemmas.Map.Made.{is_member-filter, length-le_from_is_member}
use Rattle.std.specs.List.{AllByRecursion, IsDistinct, count_by, filter, list_any, range_with_len}

-- each number is at one place
abbrev pub IsOnce : List ℕ → Type 0
IsOnce numbers = (at other number : ℕ) → slice_get numbers at ≡ Some number → slice_get numbers other ≡ Some number → at ≡ other

-- a number that is at no place is none of them
none_of_them : (number : ℕ) (numbers : List ℕ) → ((at : ℕ) → ¬ (slice_get numbers at ≡ Some number)) → AllByRecursion (λ that. eqb number that ≡ false) numbers
none_of_them number [] nowhere = tt
none_of_them number (first ∷ rest) nowhere = (ne_eqb number first (λ same. nowhere 0 (ap (λ (it : ℕ). Some it) (sym same))), none_of_them number rest (λ at. nowhere (suc at)))

-- so no two are equal
pub distinct : (numbers : List ℕ) → IsOnce numbers → IsDistinct eqb numbers
unfolding IsDistinct
distinct [] once = tt
distinct (first ∷ rest) once = (
  none_of_them first rest (λ at there. let same = once 0 (suc at) first refl there in omega arith),
  distinct rest (λ at other number here there. let same = once (suc at) (suc other) number here there in omega arith),
)

-- each is less than a bound that the number at each place is less than
pub below : (bound : ℕ) (numbers : List ℕ) → ((at number : ℕ) → slice_get numbers at ≡ Some number → number < bound)
    → (number : ℕ) → list_any (eqb number) numbers ≡ true → number < bound
below bound [] known number has = absurd (cc)
below bound (first ∷ rest) known number has = by (eqb number first) refl (below bound rest (λ at. known (suc at)) number)
  where
    by : (same : Bool) → eqb number first ≡ same → (list_any (eqb number) rest ≡ true → number < bound) → number < bound
    by true same further = let is = eqb-true number first same in omega (arith, is, known 0 first refl)
    by false same further = further (sym (ap (λ (it : Bool). it || list_any (eqb number) rest) same) ∙ has)

-- what is true of all is true of those of which the test holds
all_kept : (P : ℕ → Type 0) (test : ℕ → Bool) (numbers : List ℕ) → AllByRecursion P numbers → AllByRecursion P (filter test numbers)
all_kept P test [] all = tt
all_kept P test (first ∷ rest) all = by (test first) (all_kept P test rest all.1)
  where
    by : (holds : Bool) → AllByRecursion P (filter test rest) → AllByRecursion P (cond holds (first ∷ filter test rest) (filter test rest))
    by true kept = (all.0, kept)
    by false kept = kept

-- so these differ where all do
distinct_kept : (test : ℕ → Bool) (numbers : List ℕ) → IsDistinct eqb numbers → IsDistinct eqb (filter test numbers)
unfolding IsDistinct
distinct_kept test [] apart = tt
distinct_kept test (first ∷ rest) apart = by (test first) (all_kept (λ that. eqb first that ≡ false) test rest apart.0) (distinct_kept test rest apart.1)
  where
    by : (holds : Bool) → AllByRecursion (λ that. eqb first that ≡ false) (filter test rest) → IsDistinct eqb (filter test rest) → IsDistinct eqb (cond holds (first ∷ filter test rest) (filter test rest))
    by true others kept = (others, kept)
    by false others kept = kept

-- a number less than the bound is one of all numbers less than it
all_there : (count from number : ℕ) → from ≤ number → number < from + count → list_any (eqb number) (range_with_len from count) ≡ true
all_there zero from number low high = absurd (omega arith)
all_there (suc count) from number low high = by (eqb number from) refl (λ above. all_there count (from + 1) number above (omega arith))
  where
    by : (same : Bool) → eqb number from ≡ same → (from + 1 ≤ number → list_any (eqb number) (range_with_len (from + 1) count) ≡ true)
        → (eqb number from || list_any (eqb number) (range_with_len (from + 1) count)) ≡ true
    by true same further = rw same refl
    by false same further = rw same (further (grind (arith, nat_tests)))

-- both parts of what is true are
both_true : (one two : Bool) → (one && two) ≡ true → (one ≡ true) × (two ≡ true)
both_true true two is = (refl, is)
both_true false two is = absurd (cc)

-- so the test holds of no more of them
pub fewer_than_all : (test : ℕ → Bool) (count : ℕ) (numbers : List ℕ) → IsDistinct eqb numbers → ((number : ℕ) → list_any (eqb number) numbers ≡ true → number < count)
    → count_by test numbers ≤ count_by test (range_with_len 0 count)
fewer_than_all test count numbers apart within =
    let alike : (number it : ℕ) → eqb number it ≡ true → test number ≡ test it = λ number it same. ap test (eqb-true number it same) in
    let kept : length (filter test numbers) ≤ length (filter test (range_with_len 0 count)) =
    length-le_from_is_member nat_eq_equiv (filter test numbers) (filter test (range_with_len 0 count)) (distinct_kept test numbers apart)
    (λ number has.
    let both = both_true (list_any (eqb number) numbers) (test number) (sym (is_member-filter nat_eq_equiv test number (alike number) numbers) ∙ has) in
    is_member-filter nat_eq_equiv test number (alike number) (range_with_len 0 count)
    ∙ rw (all_there count 0 number (omega arith) (omega (arith, within number both.0)), both.1) refl) in
    omega (arith, kept, length-filter test numbers, length-filter test (range_with_len 0 count))

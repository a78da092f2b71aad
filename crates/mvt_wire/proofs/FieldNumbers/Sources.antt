-- What a source of numbers gives, as a place in all its numbers.
use Rattle.std.proofs.Common.{◌≡◌, ℕ, zero, suc, ◌+◌, ◌≤◌, List, [], ◌∷◌, length, drop, slice_get, Some, ◌∙◌, ap, arith}

-- at a place of a list is this number, and the rest is after it
pub record IsNumberAt (numbers : List ℕ) (at number : ℕ) (rest : List ℕ) : Type 0 where
  pub here : slice_get numbers at ≡ Some number
  pub following : rest ≡ drop (at + 1) numbers
  pub within : at + 1 + length rest ≡ length numbers

-- the first number that is left stands at the place, and the rest after it
pub number_at : (numbers : List ℕ) (at number : ℕ) (rest : List ℕ) → drop at numbers ≡ number ∷ rest → IsNumberAt numbers at number rest
number_at [] zero number rest left = absurd (cc)
number_at [] (suc at) number rest left = absurd (cc)
number_at (n ∷ numbers) zero number rest left = record { here = cc; following = cc; within = let same : numbers ≡ rest = cc in omega (arith, ap length same) }
number_at (n ∷ numbers) (suc at) number rest left =
    let there = number_at numbers at number rest left in
    let next : suc (at + 1) ≡ suc at + 1 = omega arith in
    record { here = there.here; following = there.following ∙ ap (λ (place : ℕ). drop place (n ∷ numbers)) next; within = let within : at + 1 + length rest ≡ length numbers = there.within in omega arith }

-- where nothing is left, the place is the end
pub at_end : (numbers : List ℕ) (at : ℕ) → drop at numbers ≡ [] → length numbers ≤ at
at_end [] at left = omega arith
at_end (n ∷ numbers) zero left = absurd (cc)
at_end (n ∷ numbers) (suc at) left = omega (arith, at_end numbers at left)

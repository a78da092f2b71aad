-- The numbers of a list as they are read from a source, one after another.
use Rattle.std.proofs.Common.{◌≡◌, ℕ, ◌+◌, ◌<◌, List, [], ◌∷◌, length, drop, Option, Some, None, ap, sym, subst, arith}
use Rattle.std.specs.Option.{IfSome, IfNone}
use Rattle.std.proofs.lemmas.List.{length-drop}
use Rattle.std.proofs.lemmas.Option.{same_Some}
use Rattle.mvt_wire.proofs.FieldNumbers.Sources.{at_end}
use Rattle.mvt_draw.specs.Calls.Given.{IsNumberThere, IsPairThere, IsGivenAt}
use Rattle.mvt_draw.proofs.Courses.{one_ahead, two_ahead}

-- numbers are left where the place isn't their end
pub some_left : (numbers : List ℕ) (at : ℕ) → at < length numbers → 0 < length (drop at numbers)
some_left numbers at within = omega (arith, length-drop at numbers)

-- the first of those that were left is at the place
pub number_left : (After : List ℕ → Type 0) (numbers : List ℕ) (at n : ℕ) → (rest : List ℕ) × (drop at numbers ≡ n ∷ rest) × After rest → IsGivenAt After numbers at n
number_left After numbers at n told =
    let there = one_ahead at numbers n told.0 told.1 in
    ((omega (arith, ap (λ (it : List ℕ). length it) told.1, length-drop at numbers), there.0), subst After (sym there.1) told.2)

-- the first two are at the place and after it
pub pair_left : (After : List ℕ → Type 0) (numbers : List ℕ) (at x y : ℕ) → (rest : List ℕ) × (drop at numbers ≡ x ∷ y ∷ rest) × After rest → IsPairThere numbers at x y × After (drop (at + 2) numbers)
pair_left After numbers at x y told =
    let there = two_ahead at numbers x y told.0 told.1 in
    ((omega (arith, ap (λ (it : List ℕ). length it) told.1, length-drop at numbers), there.0, there.1), subst After (sym there.2) told.2)

-- whatever a source gave is at the place, and those after it are left
pub given_there : (Before After : List ℕ → Type 0) (given : Option ℕ) → IfNone given ((numbers : List ℕ) → Before numbers → numbers ≡ [])
    → IfSome given (λ number. (numbers : List ℕ) → Before numbers → (rest : List ℕ) × (numbers ≡ number ∷ rest) × After rest)
    → (numbers : List ℕ) (at : ℕ) → Before (drop at numbers) → IsNumberThere numbers at given × ((n : ℕ) → given ≡ Some n → IsGivenAt After numbers at n)
given_there Before After None end number numbers at left = (at_end numbers at (end (drop at numbers) left), λ n is. cc)
given_there Before After (Some first) end number numbers at left =
    let told = number_left After numbers at first (number (drop at numbers) left) in
    (told.0, λ n is. subst (λ (it : ℕ). IsGivenAt After numbers at it) (same_Some first n is) told)

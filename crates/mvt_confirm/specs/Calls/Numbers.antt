-- A step of a walk over the numbers of a field.
use Rattle.std.specs.Prelude.{◌≡◌, ℕ, List, [], ◌∷◌, Option, Some, None}
use Rattle.mvt_wire.specs.Numbers.{NumberWalk, NumbersLeft}

-- the number that was found was the first of those that were left, of which the others are left; where none was found, none
-- was left
abbrev pub TakesNumber : NumberWalk → NumberWalk → Option ℕ → Type 0
TakesNumber old new (Some number) = (numbers : List ℕ) → NumbersLeft old numbers None → (rest : List ℕ) × (numbers ≡ number ∷ rest) × NumbersLeft new rest None
TakesNumber old new None = (numbers : List ℕ) → NumbersLeft old numbers None → numbers ≡ []

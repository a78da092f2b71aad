-- The numbers of a geometry as a source gives them.
use Rattle.std.specs.Prelude.{◌≡◌, ℕ, ◌+◌, ◌<◌, ◌≤◌, List, Option, None, Some, drop, length, slice_index}

-- the number at a place of a list, or None where the list ends there
abbrev pub IsNumberThere : List ℕ → ℕ → Option ℕ → Type 0
IsNumberThere numbers at None = length numbers ≤ at
IsNumberThere numbers at (Some number) = (at < length numbers) × (slice_index numbers at ≡ number)

-- these two numbers are at a place of a list and after it
abbrev pub IsPairThere : List ℕ → ℕ → ℕ → ℕ → Type 0
IsPairThere numbers at x y = (at + 1 < length numbers) × (slice_index numbers at ≡ x) × (slice_index numbers (at + 1) ≡ y)

-- of these numbers the one at this place was given last, and those after it are left
abbrev pub IsGivenAt : (List ℕ → Type 0) → List ℕ → ℕ → ℕ → Type 0
IsGivenAt Leaves numbers at number = IsNumberThere numbers at (Some number) × Leaves (drop (at + 1) numbers)

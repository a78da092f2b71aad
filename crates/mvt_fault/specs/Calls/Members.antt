-- For private clauses: the members of an object that is built of numbers.
use Rattle.std.specs.Prelude.{ℕ, List, [], ◌∷◌}
use Rattle.std.specs.Borrow.{Bor}
use Rattle.serde_json.specs.Data.{Members, put}
use Rattle.mvt_fault.specs.Text.{whole_number}

-- members, and after them numbers at their keys
abbrev pub with_numbers : Members → List (Bor (List ℕ) × ℕ) → Members
with_numbers members [] = members
with_numbers members (keyed ∷ more) = with_numbers (put keyed.0.now (whole_number keyed.1) members) more

-- Names that several layers have (Mapbox Vector Tile Specification 2.1, section 4.1).
use Rattle.std.specs.Prelude.{◌≡◌, ℕ, ◌-◌, ◌<◌, ◌≤◌, ◌⊎◌, List, ◌++◌, length, Some, slice_get, take, replicate}
use Rattle.std.specs.Int.{w64, from_be_bytes}

-- two layers, by their ordinals, have one name
pub record IsRepeated (names : List (List ℕ)) (first second : ℕ) : Type 0 where
  pub earlier : first < second
  pub name : List ℕ
  pub there : slice_get names first ≡ Some name
  pub again : slice_get names second ≡ Some name

-- of all such pairs the one with the earliest second layer, and of these the one with the earliest first layer
pub record IsFirstRepeated (names : List (List ℕ)) (first second : ℕ) : Type 0 where
  pub repeated : IsRepeated names first second
  pub least : (other later : ℕ) → IsRepeated names other later → (second < later) ⊎ ((second ≡ later) × (first ≤ other))

-- each ordinal is at its own place
abbrev pub AreNumbered : List ℕ → Type 0
AreNumbered ordinals = (place ordinal : ℕ) → slice_get ordinals place ≡ Some ordinal → ordinal ≡ place

-- the number that the first eight bytes of a name write, of which the first counts most; a shorter name has zeros after it
abbrev pub name_key : List ℕ → ℕ
name_key name = from_be_bytes w64 (take 8 name ++ replicate (8 - length name) 0)

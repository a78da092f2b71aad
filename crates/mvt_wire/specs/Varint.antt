-- Varints (Protocol Buffers encoding, "Base 128 Varints"). A byte list is any list of numbers here.
use Rattle.std.specs.Prelude.{◌≡◌, ℕ, ◌+◌, ◌-◌, ◌*◌, ◌%◌, ◌^◌, ◌<◌, ◌≤◌, ◌⊎◌, List, [], ◌∷◌, length, slice_index, slice_range}
use Rattle.mvt_wire.specs.declared.cause.WireCode.{WireCode}
use Rattle.mvt_wire.specs.declared.cause.WireCode.TheVariants.{Ends, TooLong}

-- the sum of the groups of seven bits, the least significant group first
abbrev pub sum_of_groups : List ℕ → ℕ
sum_of_groups [] = 0
sum_of_groups (byte ∷ bytes) = byte % 128 + 128 * sum_of_groups bytes

-- the bytes encode n: one to ten of them, all but the last from 128 on, and n is below 2^64
pub record IsVarint (bytes : List ℕ) (n : ℕ) : Type 0 where
  pub present : 0 < length bytes
  pub at_most_ten : length bytes ≤ 10
  pub continued : (i : ℕ) → i + 1 < length bytes → 128 ≤ slice_index bytes i
  pub ended : slice_index bytes (length bytes - 1) < 128
  pub value : n ≡ sum_of_groups bytes
  pub fits : n < 2 ^ 64

-- the bytes from one place up to another encode n
pub record EncodesVarint (bytes : List ℕ) (from to n : ℕ) : Type 0 where
  pub forward : from < to
  pub within : to ≤ length bytes
  pub encoding : IsVarint (slice_range bytes from to) n

-- the rest of a message or payload is a varint that ends too early: fewer than ten bytes, all from 128 on
pub record EndsEarly (rest : List ℕ) : Type 0 where
  pub few : length rest < 10
  pub continued : (i : ℕ) → i < length rest → 128 ≤ slice_index rest i

-- the rest begins with a varint that is too long: nine bytes from 128 on, and a tenth above 1
pub record IsTooLong (rest : List ℕ) : Type 0 where
  pub many : 10 ≤ length rest
  pub continued : (i : ℕ) → i < 9 → 128 ≤ slice_index rest i
  pub tenth : 1 < slice_index rest 9

-- what keeps the rest from beginning with a varint, by its code
abbrev pub VarintDefect : WireCode → List ℕ → Type 0
VarintDefect code rest = ((code ≡ Ends) × EndsEarly rest) ⊎ ((code ≡ TooLong) × IsTooLong rest)

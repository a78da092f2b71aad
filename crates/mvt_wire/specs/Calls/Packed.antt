-- The numbers of a packed list, as a walk over its bytes finds them.
use Rattle.std.specs.Prelude.{◌≡◌, ℕ, ◌+◌, ◌^◌, ◌<◌, ◌≤◌, ◌⊎◌, List, length, drop, slice_index}
use Rattle.mvt_wire.specs.Varint.{EncodesVarint, VarintDefect}
use Rattle.mvt_wire.specs.Number.{VarintList, AreSmall}
use Rattle.mvt_wire.specs.declared.cause.WireCode.{WireCode}
use Rattle.mvt_wire.specs.declared.cause.WireCode.TheVariants.{OutOfRange}

-- a number below 2^32 goes from one place up to another
pub record IsSmallNumber (part : List ℕ) (at next : ℕ) : Type 0 where
  pub number : ℕ
  pub encoded : EncodesVarint part at next number
  pub small : number < 2 ^ 32

-- what is wrong with the number at a place
abbrev pub IsBadNumber : List ℕ → ℕ → WireCode → Type 0
IsBadNumber part at code =
    VarintDefect code (drop at part)
    ⊎ ((code ≡ OutOfRange) × ((next number : ℕ) × EncodesVarint part at next number × (2 ^ 32 ≤ number)))

-- the bytes before a place are numbers below 2^32
abbrev pub AreSmallBefore : List ℕ → ℕ → Type 0
AreSmallBefore part at = (numbers : List ℕ) × VarintList part 0 numbers at × AreSmall numbers

-- the first number with a fault is at a place
pub record IsFirstBad (part : List ℕ) (at : ℕ) (code : WireCode) : Type 0 where
  pub before : AreSmallBefore part at
  pub left : at < length part
  pub fault : IsBadNumber part at code

-- four bytes in a row that are 128 or more begin at a place
abbrev pub IsRun : List ℕ → ℕ → Type 0
IsRun part at = (k : ℕ) → at ≤ k → k < at + 4 → 128 ≤ slice_index part k

-- no four such bytes begin at a place from one to another
abbrev pub HasNoRun : List ℕ → ℕ → ℕ → Type 0
HasNoRun part from to = (at : ℕ) → from ≤ at → at < to → ¬ IsRun part at

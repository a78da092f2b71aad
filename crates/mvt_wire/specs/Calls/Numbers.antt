-- Which varints a walk over numbers has left, and where those of a field begin.
use Rattle.std.specs.Prelude.{ℕ, ◌<◌, ◌≤◌, ◌≡◌, List, length, Option, Some}
use Rattle.mvt_wire.specs.declared.cause.WireCause.{WireCause}
use Rattle.mvt_wire.specs.Field.{Content, varint, eight_bytes, delimited, four_bytes}
use Rattle.mvt_wire.specs.Numbers.{NumberWalk, walk_at, NumbersEnd, NumbersLeft}

-- all that was left is left from the varint on that begins at a place of a list
pub record LeavesVarints (old : NumberWalk) (at end : ℕ) : Type 0 where
  pub same : (numbers : List ℕ) (ending : Option WireCause) → NumbersLeft (walk_at old.bytes old.field_number at end) numbers ending → NumbersLeft old numbers ending
  pub left : at < end
  pub within : end ≤ length old.bytes
  pub further : old.varint_at ≤ at

-- no fault ends the numbers from a place on
abbrev pub HasNoNumberFault : List ℕ → ℕ → ℕ → Type 0
HasNoNumberFault message from field_number = (given : List ℕ) (cause : WireCause) → ¬ NumbersEnd message from field_number given (Some cause)

-- the varints of a field of numbers begin at a place
abbrev pub BeginVarints : Content → ℕ → Type 0
BeginVarints (varint value place) at = at ≡ place
BeginVarints (eight_bytes part) at = ⊥
BeginVarints (delimited from part) at = at ≡ from
BeginVarints (four_bytes part) at = ⊥

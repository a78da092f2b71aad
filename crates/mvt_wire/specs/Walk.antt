-- A walk over the fields of a message, as `Fields` goes it.
use Rattle.std.specs.Prelude.{◌≡◌, ℕ, ◌/◌, ◌<◌, ◌≤◌, ◌⊎◌, List, length}
use Rattle.mvt_wire.specs.Field.{Entry, IsField, FieldDefect, entry_of}
use Rattle.mvt_wire.specs.Message.{IsMessage, HasDefect}
use Rattle.mvt_wire.specs.declared.cause.WireCause.{WireCause}
use Rattle.mvt_wire.specs.declared.field.Field.{Field}

-- the bytes up to the message's end, and the place of the next field
pub record Walk : Type 0 where
  pub bytes : List ℕ
  pub at : ℕ

-- nothing is left, and nothing changes
pub record IsOver (old new : Walk) : Type 0 where
  pub at_end : old.at ≡ length old.bytes
  pub unchanged : new ≡ old

-- The field at the place of the walk was given, and the walk is after it. That it goes on, and stays within its
-- bytes, follows from the encoding, and is said for callers.
pub record GivesField (old new : Walk) (entry : Entry) : Type 0 where
  pub left : old.at < length old.bytes
  pub here : entry.at ≡ old.at
  pub encoded : IsField old.bytes new.at entry
  pub further : old.at < new.at
  pub within : new.at ≤ length old.bytes
  pub same_bytes : new.bytes ≡ old.bytes

-- the field at the place of the walk has a defect, and the walk is over
pub record FindsDefect (old new : Walk) (cause : WireCause) : Type 0 where
  pub left : old.at < length old.bytes
  pub defect : FieldDefect old.bytes old.at cause
  pub stopped : new.at ≡ length old.bytes
  pub same_bytes : new.bytes ≡ old.bytes

-- the field at a place, which begins with a key of one byte, is read, with the place after it
abbrev pub IsNextField : List ℕ → ℕ → ℕ → Field × ℕ → Type 0
IsNextField bytes at key read = GivesField (record { bytes = bytes; at = at }) (record { bytes = bytes; at = read.1 }) (entry_of read.0) × (read.0.number ≡ key / 8)

-- the defect of the fields that are left, or else, where they are whole, another cause
abbrev pub IsDefectOr : Walk → WireCause → WireCause → Type 0
IsDefectOr walk other cause =
    HasDefect walk.bytes walk.at cause ⊎ (((rest : List Entry) × IsMessage walk.bytes walk.at rest) × (cause ≡ other))

-- What a walk over the fields of a message keeps of them.
use Rattle.std.specs.Prelude.{◌≡◌, ℕ, ◌+◌, ◌<◌, ◌≤◌, nat_lt, Bool, true, false, List, [], ◌∷◌, ◌++◌, length, Option, Some, MatchOption, slice_index, slice_index_or, slice_set}
use Rattle.mvt_wire.specs.Field.{Entry, entry_of}
use Rattle.mvt_wire.specs.Message.{FieldList}
use Rattle.mvt_wire.specs.Schema.{rule_of, is_required}
use Rattle.mvt_wire.specs.Varint.{EncodesVarint}
use Rattle.mvt_rules.specs.WireFault.{stands_in, count_known, EntryFault, FieldFault, MessageFault}
use Rattle.mvt_wire.specs.Walk.{GivesField}
use Rattle.mvt_wire.specs.declared.cause.WireCause.{WireCause}
use Rattle.mvt_wire.specs.declared.field.Field.{Field}
use Rattle.mvt_wire.specs.declared.schema.FieldRule.{FieldRule}
use Rattle.mvt_wire.specs.declared.schema.Message.{Message}
use Rattle.mvt_wire.specs.declared.schema.Message.TheVariants.{Value}
use Rattle.mvt_tile.specs.Calls.Least.{IsLeastCause}
use Rattle.mvt_tile.specs.declared.wire.scan.FieldScan.{FieldScan}

-- the scan has kept that a field of the number occurred
abbrev pub was_seen : FieldScan → ℕ → Bool
was_seen scan field_number = slice_index_or scan.occurred field_number false

-- the scan has passed these fields, none of which has a fault
pub record HasScanned (message : Message) (scan : FieldScan) (entries : List Entry) : Type 0 where
  pub occurred : (field_number : ℕ) (rule : FieldRule) → rule_of message field_number ≡ Some rule → was_seen scan field_number ≡ stands_in field_number entries
  pub known : message ≡ Value → scan.known ≡ nat_lt 0 (count_known message entries)
  pub several : message ≡ Value → scan.several ≡ nat_lt 1 (count_known message entries)
  pub faultless : (cause : WireCause) → ¬ FieldFault message entries cause

-- the scan has kept that a number occurred
pub record HasKept (message : Message) (old new : FieldScan) (field_number : ℕ) : Type 0 where
  pub occurred : new.occurred ≡ slice_set old.occurred field_number true
  pub value : message ≡ Value → (new.known ≡ true) × (new.several ≡ old.known)

-- by its rule the next field has no fault, and its number is kept; or else this is its first, and nothing is
abbrev pub PassesKnown : Message → FieldRule → Entry → FieldScan → FieldScan → Option WireCause → Type 0
PassesKnown message rule entry old new found =
    MatchOption found (HasKept message old new entry.number × ((cause : WireCause) → ¬ EntryFault rule (was_seen old entry.number) entry cause))
    (λ cause. (new ≡ old) × IsLeastCause (EntryFault rule (was_seen old entry.number) entry) cause)

-- of the faults of the fields before a place, one with the least place
pub record IsFirstFieldFault (message : Message) (entries : List Entry) (to : ℕ) (cause : WireCause) : Type 0 where
  pub before : cause.at < to
  pub least : IsLeastCause (FieldFault message entries) cause

-- the field at a place is read, with the place after it, and the scan has passed it
pub record PassesNext (message : Message) (bytes : List ℕ) (at : ℕ) (old new : FieldScan) (read : Field × ℕ) : Type 0 where
  pub given : GivesField (record { bytes = bytes; at = at }) (record { bytes = bytes; at = read.1 }) (entry_of read.0)
  pub passed : (entries : List Entry) → HasScanned message old entries → HasScanned message new (entries ++ entry_of read.0 ∷ [])

-- so it is with what was read, or else the scan is unchanged
abbrev pub PassesOrNot : Message → List ℕ → ℕ → FieldScan → FieldScan → Option (Field × ℕ) → Type 0
PassesOrNot message bytes at old new read = MatchOption read (new ≡ old) (PassesNext message bytes at old new)

-- at a place is a key of one byte, and after it a varint up to another place
pub record StartsWith (bytes : List ℕ) (at key value start : ℕ) : Type 0 where
  pub within : at + 2 ≤ length bytes
  pub here : slice_index bytes at ≡ key
  pub leading : EncodesVarint bytes (at + 1) start value
  pub numbered : 8 ≤ key
  pub short : key < 128

-- whatever fields before a place the scan has passed, the cause is the first fault of the message that begins with them
abbrev pub IsFirstFrom : Message → List ℕ → ℕ → FieldScan → WireCause → Type 0
IsFirstFrom message bytes at scan cause =
    (from : ℕ) (entries : List Entry) → FieldList bytes from entries at → HasScanned message scan entries → IsLeastCause (MessageFault message bytes from) cause

-- a number is required, and the scan has not kept that it occurred
pub record IsMissing (message : Message) (scan : FieldScan) (field_number : ℕ) : Type 0 where
  pub rule : FieldRule
  pub known : rule_of message field_number ≡ Some rule
  pub required : is_required rule.occurrence ≡ true
  pub absent : was_seen scan field_number ≡ false

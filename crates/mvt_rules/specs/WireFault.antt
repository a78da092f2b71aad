-- The wire faults of a tile: what keeps its bytes from being one by the Protocol Buffers encoding or by its schema
-- (Mapbox Vector Tile Specification 2.1, section 4).
use Rattle.std.specs.Prelude.{◌≡◌, ◌≢◌, ℕ, nat_lt, Bool, true, false, ◌⊎◌, List, ◌∷◌, ◌++◌, length, take, filter, is_some, Some, IsUtf8}
use Rattle.mvt_wire.specs.Field.{varint, delimited, Entry, wire_type_of, cause_at}
use Rattle.mvt_wire.specs.Message.{IsMessage, HasDefect}
use Rattle.mvt_wire.specs.Number.{PackedFault}
use Rattle.mvt_wire.specs.Schema.{rule_of, is_own, is_out_of_range, is_singular, is_required}
use Rattle.mvt_wire.specs.Payload.{count_of, Span}
use Rattle.mvt_rules.specs.Scope.{IsScope, message_of}
use Rattle.mvt_wire.specs.declared.cause.WireCode.TheVariants.{OtherType, Again, Missing, OneField, NotUtf8, OutOfRange}
use Rattle.mvt_wire.specs.declared.cause.WireCause.{WireCause}
use Rattle.mvt_wire.specs.declared.schema.FieldRule.{FieldRule}
use Rattle.mvt_wire.specs.declared.schema.Message.{Message}
use Rattle.mvt_wire.specs.declared.schema.Message.TheVariants.{Value}
use Rattle.mvt_wire.specs.declared.schema.Shape.TheVariants.{Text, Numbers}
use Rattle.mvt_wire.specs.declared.scope.Scope.{Scope}

-- a field of the number occurs in the list
abbrev pub stands_in : ℕ → List Entry → Bool
stands_in field_number entries = nat_lt 0 (count_of field_number entries)

-- how many fields there are of numbers that the message knows
abbrev pub count_known : Message → List Entry → ℕ
count_known message entries = length (filter (λ entry. is_some (rule_of message entry.number)) entries)

-- What is wrong with a field of a whole message, by the rule for its number. `occurred` says whether a field of that
-- number comes before it.
pub data EntryFault (rule : FieldRule) (occurred : Bool) (entry : Entry) (cause : WireCause) : Type 0 where
  -- another wire type than its own
  other_type : is_own rule.shape (wire_type_of entry.content) ≡ false
      → cause ≡ cause_at OtherType entry.at entry.number → EntryFault rule occurred entry cause
  -- a further field of a number that may occur once
  again : is_singular rule.occurrence ≡ true → occurred ≡ true
      → cause ≡ cause_at Again entry.at entry.number → EntryFault rule occurred entry cause
  -- a text that isn't UTF-8
  no_text : (from : ℕ) (part : List ℕ)
      → rule.shape ≡ Text → entry.content ≡ delimited from part → ¬ IsUtf8 part
      → cause ≡ cause_at NotUtf8 entry.at entry.number → EntryFault rule occurred entry cause
  -- a number out of its range
  out_of_range : (value at : ℕ)
      → entry.content ≡ varint value at → is_out_of_range rule.shape value ≡ true
      → cause ≡ cause_at OutOfRange at entry.number → EntryFault rule occurred entry cause
  -- a packed list that has a fault
  packed : (from : ℕ) (part : List ℕ)
      → rule.shape ≡ Numbers → entry.content ≡ delimited from part → PackedFault from part entry.number cause
      → EntryFault rule occurred entry cause

-- a field that the message knows is wrong
pub record FieldFault (message : Message) (entries : List Entry) (cause : WireCause) : Type 0 where
  pub before : List Entry
  pub entry : Entry
  pub after : List Entry
  pub split : entries ≡ before ++ entry ∷ after
  pub rule : FieldRule
  pub known : rule_of message entry.number ≡ Some rule
  pub fault : EntryFault rule (stands_in entry.number before) entry cause

-- what is wrong with a whole message at its end
pub data EndFault (message : Message) (entries : List Entry) (end : ℕ) (cause : WireCause) : Type 0 where
  -- no field of a required number
  missing : (field_number : ℕ) (rule : FieldRule)
      → rule_of message field_number ≡ Some rule → is_required rule.occurrence ≡ true → stands_in field_number entries ≡ false
      → cause ≡ cause_at Missing end field_number → EndFault message entries end cause
  -- a value with none or several of its fields
  not_one : message ≡ Value → count_known message entries ≢ 1
      → cause ≡ cause_at OneField end 0 → EndFault message entries end cause

-- What is wrong with a message from a place up to the end of the bytes: a field that isn't whole, or else, in a whole
-- message, what its schema refuses
abbrev pub MessageFault : Message → List ℕ → ℕ → WireCause → Type 0
MessageFault message bytes from cause =
    HasDefect bytes from cause
    ⊎ ((entries : List Entry) × IsMessage bytes from entries × (FieldFault message entries cause ⊎ EndFault message entries (length bytes) cause))

-- the message of a scope has this fault; each message round it is whole
pub record WireFault (bytes : List ℕ) (scope : Scope) (cause : WireCause) : Type 0 where
  pub span : Span
  pub there : IsScope bytes scope span
  pub fault : MessageFault (message_of scope) (take span.to bytes) span.from cause

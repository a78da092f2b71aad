-- What walks over one message find, in their own words: the rules of its schema one by one, and the messages in it.
use Rattle.std.specs.Prelude.{◌≡◌, ℕ, ◌+◌, ◌≤◌, Bool, true, false, List, length, take, All, IsUtf8}
use Rattle.mvt_wire.specs.Field.{Content, varint, eight_bytes, delimited, four_bytes, Entry}
use Rattle.mvt_wire.specs.Message.{IsMessage}
use Rattle.mvt_wire.specs.Number.{VarintList, AreSmall}
use Rattle.mvt_wire.specs.Schema.{is_out_of_range, is_singular, is_required}
use Rattle.mvt_wire.specs.Payload.{Span, spans_of, count_of}
use Rattle.mvt_rules.specs.Tile.{Fits, KeepsSchema}
use Rattle.mvt_rules.specs.WireFault.{count_known}
use Rattle.mvt_wire.specs.declared.schema.FieldRule.{FieldRule}
use Rattle.mvt_wire.specs.declared.schema.Message.{Message}
use Rattle.mvt_wire.specs.declared.schema.Message.TheVariants.{Layer, Value, Feature}
use Rattle.mvt_wire.specs.declared.schema.Shape.{Shape}
use Rattle.mvt_wire.specs.declared.schema.Shape.TheVariants.{Text, Numbers}

-- the bytes from a place on are a whole message, and its fields have a property
pub record HoldsFields (bytes : List ℕ) (from : ℕ) (Have : List Entry → Type 0) : Type 0 where
  pub entries : List Entry
  pub whole : IsMessage bytes from entries
  pub have : Have entries

-- the span holds a message that keeps its schema
abbrev pub HoldsMessage : Message → List ℕ → Span → Type 0
HoldsMessage message bytes span = HoldsFields (take span.to bytes) span.from (KeepsSchema message)

-- the span holds a whole message, and each payload of a number in it is a span as it should be
abbrev pub HoldsParts : List ℕ → Span → ℕ → (Span → Type 0) → Type 0
HoldsParts bytes span field_number Stands = HoldsFields (take span.to bytes) span.from (λ entries. All Stands (spans_of field_number entries))

-- the span holds a layer that keeps its schema, and so do its features and its values
pub record HoldsLayer (bytes : List ℕ) (span : Span) : Type 0 where
  pub own : HoldsMessage Layer bytes span
  pub features : HoldsParts bytes span 2 (HoldsMessage Feature bytes)
  pub values : HoldsParts bytes span 4 (HoldsMessage Value bytes)

-- the bytes from a place on are a packed list of numbers of 32 bits
abbrev pub AreSmallFrom : List ℕ → ℕ → Type 0
AreSmallFrom part from = (numbers : List ℕ) × VarintList part from numbers (length part) × AreSmall numbers

-- what a payload of an own wire type says is in the shape's range
abbrev pub IsContentInRange : Shape → Content → Type 0
IsContentInRange shape (varint value at) = is_out_of_range shape value ≡ false
IsContentInRange shape (eight_bytes part) = Unit {0}
IsContentInRange shape (delimited from part) = (shape ≡ Text → IsUtf8 part) × (shape ≡ Numbers → AreSmallFrom part 0)
IsContentInRange shape (four_bytes part) = Unit {0}

-- the fields of a rule's number fit it, and occur as often as allowed
pub record KeepsRule (rule : FieldRule) (entries : List Entry) : Type 0 where
  pub fits : All (λ entry. entry.number ≡ rule.number → Fits rule entry.content) entries
  pub at_most : is_singular rule.occurrence ≡ true → count_of rule.number entries ≤ 1
  pub at_least : is_required rule.occurrence ≡ true → 1 ≤ count_of rule.number entries

-- what a walk counts of the fields before it, of which none or at least one occurred
abbrev pub count_before : Bool → ℕ
count_before true = 1
count_before false = 0

-- the fields that are left keep a rule, where fields of its number occurred before them or not
pub record KeepsRuleAfter (rule : FieldRule) (occurred : Bool) (entries : List Entry) : Type 0 where
  pub fits : All (λ entry. entry.number ≡ rule.number → Fits rule entry.content) entries
  pub at_most : is_singular rule.occurrence ≡ true → count_before occurred + count_of rule.number entries ≤ 1
  pub at_least : is_required rule.occurrence ≡ true → 1 ≤ count_before occurred + count_of rule.number entries

-- the fields that are left have the one field that a value knows, or it occurred before them
abbrev pub HasOneKnownAfter : Bool → List Entry → Type 0
HasOneKnownAfter known entries = count_before known + count_known Value entries ≡ 1

-- The numbers of 32 bits that the fields of one number state in a message, as single varints or in packed lists, up to
-- the first fault (Protocol Buffers encoding, "Packed Repeated Fields"; Mapbox Vector Tile Specification 2.1, sections
-- 4.2 and 4.3).
use Rattle.std.specs.Prelude.{◌≡◌, ℕ, ◌+◌, ◌-◌, ◌^◌, ◌<◌, ◌≤◌, false, ◌⊎◌, List, [], ◌∷◌, ◌++◌, length, take, drop, Option, Some, None}
use Rattle.mvt_wire.specs.Varint.{EncodesVarint, VarintDefect}
use Rattle.mvt_wire.specs.Field.{Content, varint, eight_bytes, delimited, four_bytes, Entry, wire_type_of, IsField, FieldDefect, cause_at}
use Rattle.mvt_wire.specs.Message.{FieldList, IsMessage}
use Rattle.mvt_wire.specs.Number.{VarintList, StateTogether, AreSmall, PackedFault}
use Rattle.mvt_wire.specs.Schema.{is_own}
use Rattle.mvt_wire.specs.Payload.{contents_of}
use Rattle.mvt_wire.specs.declared.cause.WireCode.{WireCode}
use Rattle.mvt_wire.specs.declared.cause.WireCode.TheVariants.{OtherType, OutOfRange}
use Rattle.mvt_wire.specs.declared.cause.WireCause.{WireCause}
use Rattle.mvt_wire.specs.declared.schema.Shape.TheVariants.{Numbers}

-- What is wrong with a field of numbers, and the numbers that it states before that.
pub data NumberFault (entry : Entry) (numbers : List ℕ) (cause : WireCause) : Type 0 where
  -- it is no varint and no packed list
  other_type : is_own Numbers (wire_type_of entry.content) ≡ false
      → numbers ≡ []
      → cause ≡ cause_at OtherType entry.at entry.number → NumberFault entry numbers cause
  -- its one number has more than 32 bits
  large_number : (value at : ℕ)
      → entry.content ≡ varint value at → 2 ^ 32 ≤ value
      → numbers ≡ []
      → cause ≡ cause_at OutOfRange at entry.number → NumberFault entry numbers cause
  -- after those numbers its packed list has a fault
  in_packed_list : (from : ℕ) (part : List ℕ) (at : ℕ)
      → entry.content ≡ delimited from part → VarintList part 0 numbers at
      → PackedFault from part entry.number cause → cause.at ≡ from + at → NumberFault entry numbers cause

-- What is wrong at a place where a field is due, so that the numbers end there, and the numbers that this field states
-- before that.
pub data StopsAt (bytes : List ℕ) (at field_number : ℕ) (numbers : List ℕ) (cause : WireCause) : Type 0 where
  -- the field isn't whole
  at_defect : at < length bytes → FieldDefect bytes at cause → numbers ≡ [] → StopsAt bytes at field_number numbers cause
  -- the field has the number, and a fault
  in_field : (to : ℕ) (entry : Entry)
      → entry.at ≡ at → IsField bytes to entry → entry.number ≡ field_number
      → NumberFault entry numbers cause → StopsAt bytes at field_number numbers cause

-- what is wrong in a message, after any whole fields of it, so that its numbers end there
pub record IsNumbersFault (bytes : List ℕ) (from field_number : ℕ) (cause : WireCause) : Type 0 where
  pub entries : List Entry
  pub at : ℕ
  pub before : FieldList bytes from entries at
  pub numbers : List ℕ
  pub stop : StopsAt bytes at field_number numbers cause

-- the numbers up to the first fault: those of the fields before the one with the fault, and those that this field
-- states before it
pub record StopsNumbers (bytes : List ℕ) (from field_number : ℕ) (numbers : List ℕ) (cause : WireCause) : Type 0 where
  pub entries : List Entry
  pub at : ℕ
  pub before : FieldList bytes from entries at
  pub first : List ℕ
  pub stated : StateTogether (contents_of field_number entries) first
  pub last : List ℕ
  pub stop : StopsAt bytes at field_number last cause
  pub joined : numbers ≡ first ++ last
  pub small : AreSmall numbers

-- The numbers of a message's fields of one number, and how they end: with a whole message (None), or at a fault.
abbrev pub NumbersEnd : List ℕ → ℕ → ℕ → List ℕ → Option WireCause → Type 0
NumbersEnd bytes from field_number numbers None =
    (entries : List Entry) × IsMessage bytes from entries × StateTogether (contents_of field_number entries) numbers × AreSmall numbers
NumbersEnd bytes from field_number numbers (Some cause) = StopsNumbers bytes from field_number numbers cause

-- the varint that begins at a place is a number of the payload: its one, or one of its packed list
abbrev pub StatesAt : Content → ℕ → ℕ → Type 0
StatesAt (varint value at) place n = (place ≡ at) × (n ≡ value)
StatesAt (eight_bytes part) place n = ⊥
StatesAt (delimited from part) place n =
    (numbers : List ℕ) × (at next : ℕ) × VarintList part 0 numbers at × EncodesVarint part at next n × (place ≡ from + at)
StatesAt (four_bytes part) place n = ⊥

-- the varint that begins at a place is a number of a field of the number, after any whole fields
pub record IsNumberAt (bytes : List ℕ) (from field_number place n : ℕ) : Type 0 where
  pub entries : List Entry
  pub at : ℕ
  pub before : FieldList bytes from entries at
  pub to : ℕ
  pub entry : Entry
  pub here : entry.at ≡ at
  pub field : IsField bytes to entry
  pub of_number : entry.number ≡ field_number
  pub states : StatesAt entry.content place n

-- of all numbers with their places, these are the ones from a place on up to another, in order
abbrev pub StandBetween : (ℕ → ℕ → Type 0) → ℕ → List ℕ → ℕ → Type 0
StandBetween stands_at from [] to = (place n : ℕ) → from ≤ place → place < to → ¬ stands_at place n
StandBetween stands_at from (n ∷ numbers) to =
    (at : ℕ) × (from ≤ at) × (at < to) × stands_at at n × ((place m : ℕ) → from ≤ place → place < at → ¬ stands_at place m)
    × StandBetween stands_at (at + 1) numbers to

-- where the numbers end: at the fault, or at the message's end
abbrev pub place_of_end : List ℕ → Option WireCause → ℕ
place_of_end bytes None = length bytes
place_of_end bytes (Some cause) = cause.at

-- A walk over the numbers, as `Numbers` goes it: the bytes up to the message's end, the place of the next varint in the
-- list that is being read, and the place where that list ends and the next field is due.
pub record NumberWalk : Type 0 where
  pub bytes : List ℕ
  pub field_number : ℕ
  pub varint_at : ℕ
  pub field_at : ℕ

-- the walk of these parts
abbrev pub walk_at : List ℕ → ℕ → ℕ → ℕ → NumberWalk
walk_at bytes field_number varint_at field_at = record { bytes = bytes; field_number = field_number; varint_at = varint_at; field_at = field_at }

-- the numbers of 32 bits that the bytes from a place on encode as varints, and the fault after them
pub record StopsVarints (bytes : List ℕ) (from field_number : ℕ) (numbers : List ℕ) (cause : WireCause) : Type 0 where
  pub at : ℕ
  pub before : VarintList bytes from numbers at
  pub small : AreSmall numbers
  pub left : at < length bytes
  pub fault : ((code : WireCode) × VarintDefect code (drop at bytes) × (cause ≡ cause_at code at field_number))
      ⊎ ((next n : ℕ) × EncodesVarint bytes at next n × (2 ^ 32 ≤ n) × (cause ≡ cause_at OutOfRange at field_number))

-- the numbers that a walk has left, and how they end
pub data NumbersLeft (walk : NumberWalk) (numbers : List ℕ) (ending : Option WireCause) : Type 0 where
  -- the list that is being read is whole, and the fields after it follow
  goes_on : (first rest : List ℕ)
      → VarintList (take walk.field_at walk.bytes) walk.varint_at first walk.field_at → AreSmall first
      → NumbersEnd walk.bytes walk.field_at walk.field_number rest ending
      → numbers ≡ first ++ rest → NumbersLeft walk numbers ending
  -- the list that is being read has a fault
  stops : (cause : WireCause)
      → StopsVarints (take walk.field_at walk.bytes) walk.varint_at walk.field_number numbers cause
      → ending ≡ Some cause → NumbersLeft walk numbers ending

-- a bound on the numbers that are left
abbrev pub most_left : NumberWalk → ℕ
most_left walk = length walk.bytes - walk.varint_at

-- nothing is left
pub record HasEnded (walk : NumberWalk) : Type 0 where
  pub last_varint : walk.varint_at ≡ length walk.bytes
  pub last_field : walk.field_at ≡ length walk.bytes

-- a number of 32 bits was given: it was before all that is left, and of all that was left it was the first
pub record GivesNumber (old new : NumberWalk) (n : ℕ) : Type 0 where
  pub first : (numbers : List ℕ) (ending : Option WireCause) → NumbersLeft new numbers ending → NumbersLeft old (n ∷ numbers) ending
  pub others : (numbers : List ℕ) (ending : Option WireCause) → NumbersLeft old numbers ending → (rest : List ℕ) × (numbers ≡ n ∷ rest) × NumbersLeft new rest ending
  pub small : n < 2 ^ 32
  pub fewer : most_left new < most_left old

-- no number was left, with this ending and no other, and the walk is over
pub record EndsNumbers (old new : NumberWalk) (ending : Option WireCause) : Type 0 where
  pub none : NumbersLeft old [] ending
  pub only : (numbers : List ℕ) (other : Option WireCause) → NumbersLeft old numbers other → (numbers ≡ []) × (other ≡ ending)
  pub over : HasEnded new

-- no field states numbers from a place on
abbrev pub HasNoNumber : List ℕ → ℕ → ℕ → Type 0
HasNoNumber message from field_number = (number : ℕ) (given : List ℕ) → ¬ NumbersEnd message from field_number (number ∷ given) None

-- no fault ends those that a walk has left
abbrev pub IsFaultless : NumberWalk → Type 0
IsFaultless walk = (given : List ℕ) (cause : WireCause) → ¬ NumbersLeft walk given (Some cause)

-- Fields (Protocol Buffers encoding, "Message Structure"). All places are offsets in one byte list, which ends
-- where the message ends.
use Rattle.std.specs.Prelude.{◌≡◌, ℕ, ◌+◌, ◌*◌, ◌^◌, ◌<◌, ◌≤◌, ◌⊎◌, List, length, slice_range, drop}
use Rattle.mvt_wire.specs.Varint.{EncodesVarint, VarintDefect}
use Rattle.mvt_wire.specs.declared.cause.WireCode.{WireCode}
use Rattle.mvt_wire.specs.declared.cause.WireCode.TheVariants.{BadNumber, BadWireType, PastEnd}
use Rattle.mvt_wire.specs.declared.cause.WireCause.{WireCause}
use Rattle.mvt_wire.specs.declared.field.Field.{Field}
use Rattle.mvt_wire.specs.declared.field.Body.{Body}
use Rattle.mvt_wire.specs.declared.field.Body.TheVariants.{Varint, Fixed64, Bytes, Fixed32}

-- A payload by its wire type: a varint with the offset of its first byte, eight bytes, the bytes after a length with
-- the offset of the first of them, or four bytes.
pub data Content : Type 0 where
  varint : ℕ → ℕ → Content
  eight_bytes : List ℕ → Content
  delimited : ℕ → List ℕ → Content
  four_bytes : List ℕ → Content

-- a field of a message, without where it lies in memory: its number, the offset of its key, its payload
pub record Entry : Type 0 where
  pub number : ℕ
  pub at : ℕ
  pub content : Content

-- the content that a reader's body shows
abbrev pub content_of : Body → Content
content_of (Varint value at) = varint value at
content_of (Fixed64 part) = eight_bytes part.now
content_of (Bytes from part) = delimited from part.now
content_of (Fixed32 part) = four_bytes part.now

-- the field that a reader's item shows
abbrev pub entry_of : Field → Entry
entry_of field = record { number = field.number; at = field.at; content = content_of field.body }

-- the wire type of a payload
abbrev pub wire_type_of : Content → ℕ
wire_type_of (varint value at) = 0
wire_type_of (eight_bytes part) = 1
wire_type_of (delimited from part) = 2
wire_type_of (four_bytes part) = 5

-- the bytes from one place up to another encode the field key: eight times the number, and the wire type
pub record IsKey (bytes : List ℕ) (from to field_number wire_type : ℕ) : Type 0 where
  pub encoded : EncodesVarint bytes from to (field_number * 8 + wire_type)
  pub below_limit : field_number * 8 + wire_type < 2 ^ 32
  pub numbered : 1 ≤ field_number
  pub low_bits : wire_type < 8

-- The payload is encoded from one place up to another.
abbrev pub IsPayload : List ℕ → ℕ → ℕ → Content → Type 0
-- a varint
IsPayload bytes from to (varint value at) = (at ≡ from) × EncodesVarint bytes from to value
-- eight bytes
IsPayload bytes from to (eight_bytes part) = (to ≡ from + 8) × (to ≤ length bytes) × (part ≡ slice_range bytes from to)
-- a varint n, and n bytes
IsPayload bytes from to (delimited start part) =
    (n : ℕ) × EncodesVarint bytes from start n × (to ≡ start + n) × (to ≤ length bytes) × (part ≡ slice_range bytes start to)
-- four bytes
IsPayload bytes from to (four_bytes part) = (to ≡ from + 4) × (to ≤ length bytes) × (part ≡ slice_range bytes from to)

-- the field is encoded from its own place up to another: its key, and after it its payload
pub record IsField (bytes : List ℕ) (to : ℕ) (entry : Entry) : Type 0 where
  pub key_end : ℕ
  pub key : IsKey bytes entry.at key_end entry.number (wire_type_of entry.content)
  pub payload : IsPayload bytes key_end to entry.content

-- the bytes are one field's encoding, and nothing else
abbrev pub IsFieldEncoding : List ℕ → Entry → Type 0
IsFieldEncoding bytes entry = (entry.at ≡ 0) × IsField bytes (length bytes) entry

-- a wire type that is not read: groups (3 and 4), 6 and 7
abbrev pub IsRefusedType : ℕ → Type 0
IsRefusedType wire_type = (wire_type ≡ 3) ⊎ (wire_type ≡ 4) ⊎ (wire_type ≡ 6) ⊎ (wire_type ≡ 7)

-- the payload after a key begins with a varint: its value, or its length
abbrev pub HasLeadingVarint : ℕ → Type 0
HasLeadingVarint wire_type = (wire_type ≡ 0) ⊎ (wire_type ≡ 2)

-- the payload of this wire type from this place on would end at that place
abbrev pub PayloadEnd : List ℕ → ℕ → ℕ → ℕ → Type 0
PayloadEnd bytes from wire_type end =
    ((wire_type ≡ 1) × (end ≡ from + 8))
    ⊎ ((wire_type ≡ 5) × (end ≡ from + 4))
    ⊎ ((wire_type ≡ 2) × ((start n : ℕ) × EncodesVarint bytes from start n × (end ≡ start + n)))

-- the cause with a code, at a place, about a field number
abbrev pub cause_at : WireCode → ℕ → ℕ → WireCause
cause_at code at field_number = record { code = code; at = at; field = field_number }

-- Why no field is at a place that has bytes left, with the cause that says so.
pub data FieldDefect (bytes : List ℕ) (at : ℕ) (cause : WireCause) : Type 0 where
  -- the key is no varint
  key : (code : WireCode)
      → VarintDefect code (drop at bytes)
      → cause ≡ cause_at code at 0 → FieldDefect bytes at cause
  -- the key is 2^32 or more, or its field number is 0
  key_out_of_range : (to n : ℕ)
      → EncodesVarint bytes at to n → (2 ^ 32 ≤ n) ⊎ (n < 8)
      → cause ≡ cause_at BadNumber at 0 → FieldDefect bytes at cause
  -- the wire type is 3, 4, 6 or 7
  refused_type : (to field_number wire_type : ℕ)
      → IsKey bytes at to field_number wire_type → IsRefusedType wire_type
      → cause ≡ cause_at BadWireType at field_number → FieldDefect bytes at cause
  -- the payload's value or length is no varint
  leading_varint : (to field_number wire_type : ℕ) (code : WireCode)
      → IsKey bytes at to field_number wire_type → HasLeadingVarint wire_type → VarintDefect code (drop to bytes)
      → cause ≡ cause_at code to field_number → FieldDefect bytes at cause
  -- the payload would end after the message
  past_end : (to field_number wire_type end : ℕ)
      → IsKey bytes at to field_number wire_type → PayloadEnd bytes to wire_type end → length bytes < end
      → cause ≡ cause_at PastEnd at field_number → FieldDefect bytes at cause

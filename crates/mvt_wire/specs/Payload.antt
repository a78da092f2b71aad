-- The payloads of a message's fields: those of a number, what they state, and where they lie (Protocol Buffers encoding,
-- "Message Structure").
use Rattle.std.specs.Prelude.{ℕ, ◌+◌, ◌==◌, List, length, filter, filter_map, map, Option, Some, None}
use Rattle.mvt_wire.specs.Field.{Content, varint, eight_bytes, delimited, four_bytes, Entry}

-- the fields of a number
abbrev pub fields_of : ℕ → List Entry → List Entry
fields_of field_number entries = filter (λ entry. entry.number == field_number) entries

-- the payloads of the fields of a number
abbrev pub contents_of : ℕ → List Entry → List Content
contents_of field_number entries = map (λ entry. entry.content) (fields_of field_number entries)

-- how many fields of a number there are
abbrev pub count_of : ℕ → List Entry → ℕ
count_of field_number entries = length (fields_of field_number entries)

-- the number of a varint
abbrev pub number_in : Content → Option ℕ
number_in (varint value at) = Some value
number_in (eight_bytes part) = None
number_in (delimited from part) = None
number_in (four_bytes part) = None

-- the bytes after a length
abbrev pub bytes_in : Content → Option (List ℕ)
bytes_in (varint value at) = None
bytes_in (eight_bytes part) = None
bytes_in (delimited from part) = Some part
bytes_in (four_bytes part) = None

-- the numbers that the varints of a field number state
abbrev pub numbers_of : ℕ → List Entry → List ℕ
numbers_of field_number entries = filter_map number_in (contents_of field_number entries)

-- the texts of a field number
abbrev pub texts_of : ℕ → List Entry → List (List ℕ)
texts_of field_number entries = filter_map bytes_in (contents_of field_number entries)

-- a span of bytes, from one place up to another
pub record Span : Type 0 where
  pub from : ℕ
  pub to : ℕ

-- where a payload of wire type 2 lies
abbrev pub span_of : Content → Option Span
span_of (varint value at) = None
span_of (eight_bytes part) = None
span_of (delimited from part) = Some (record { from = from; to = from + length part })
span_of (four_bytes part) = None

-- where the payloads of wire type 2 of the fields of a number lie
abbrev pub spans_of : ℕ → List Entry → List Span
spans_of field_number entries = filter_map span_of (contents_of field_number entries)

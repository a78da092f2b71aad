-- The line that says which fields a message has: JSON with no space, the keys of each field in the order of their bytes.
use Rattle.std.specs.Prelude.{ℕ, List, ◌++◌, codes, length, map}
use Rattle.std.specs.Fmt.{decimal}
use Rattle.std.specs.List.{join_with_byte}
use Rattle.mvt_wire.specs.Field.{Entry, Content, varint, eight_bytes, delimited, four_bytes}

-- a field with a varint: the offset of its key, its number, its value
abbrev pub varint_text : ℕ → ℕ → ℕ → List ℕ
varint_text at field_number value =
    codes "{\"at\":" ++ decimal at ++ codes ",\"number\":" ++ decimal field_number
    ++ codes ",\"type\":0,\"value\":" ++ decimal value ++ codes "}"

-- a field with a payload of some bytes: the offset of its key, how many they are, its number, its wire type
abbrev pub payload_text : ℕ → ℕ → ℕ → ℕ → List ℕ
payload_text at size field_number wire_type =
    codes "{\"at\":" ++ decimal at ++ codes ",\"length\":" ++ decimal size ++ codes ",\"number\":" ++ decimal field_number
    ++ codes ",\"type\":" ++ decimal wire_type ++ codes "}"

-- a field by its payload
abbrev pub content_text : ℕ → ℕ → Content → List ℕ
content_text at field_number (varint value from) = varint_text at field_number value
content_text at field_number (eight_bytes part) = payload_text at 8 field_number 1
content_text at field_number (delimited from part) = payload_text at (length part) field_number 2
content_text at field_number (four_bytes part) = payload_text at 4 field_number 5

-- a field
abbrev pub field_text : Entry → List ℕ
field_text entry = content_text entry.at entry.number entry.content

-- what is before the first field
abbrev pub opening : List ℕ
opening = codes "{\"fields\":["

-- the fields in order, with a comma between each two
abbrev pub fields_text : List Entry → List ℕ
fields_text entries = join_with_byte 44 (map field_text entries)

-- the whole line, with its LF
abbrev pub fields_line : List Entry → List ℕ
fields_line entries = opening ++ fields_text entries ++ codes "]}\n"

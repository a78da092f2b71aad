-- Messages: fields one after another (Protocol Buffers encoding, "Message Structure").
use Rattle.std.specs.Prelude.{◌≡◌, ℕ, ◌+◌, ◌<◌, List, [], ◌∷◌, length}
use Rattle.mvt_wire.specs.Field.{Content, varint, eight_bytes, delimited, four_bytes, Entry, IsField, IsFieldEncoding, FieldDefect}
use Rattle.mvt_wire.specs.declared.cause.WireCause.{WireCause}

-- the bytes from one place up to another are the encodings of these fields, one after another
abbrev pub FieldList : List ℕ → ℕ → List Entry → ℕ → Type 0
FieldList bytes from [] to = from ≡ to
FieldList bytes from (entry ∷ entries) to = (entry.at ≡ from) × ((next : ℕ) × IsField bytes next entry × FieldList bytes next entries to)

-- the bytes from a place to their end are a whole message, with this field list
abbrev pub IsMessage : List ℕ → ℕ → List Entry → Type 0
IsMessage bytes from entries = FieldList bytes from entries (length bytes)

-- a field with its places counted from that many bytes further back
abbrev pub content_moved : ℕ → Content → Content
content_moved by (varint value at) = varint value (by + at)
content_moved by (eight_bytes part) = eight_bytes part
content_moved by (delimited from part) = delimited (by + from) part
content_moved by (four_bytes part) = four_bytes part

abbrev pub entry_moved : ℕ → Entry → Entry
entry_moved by entry = record { number = entry.number; at = by + entry.at; content = content_moved by entry.content }

-- each piece is one field's encoding, the first of them from a place on and each next one after it
abbrev pub AreEncodings : ℕ → List (List ℕ) → List Entry → Type 0
AreEncodings at [] [] = Unit {0}
AreEncodings at (piece ∷ pieces) (entry ∷ entries) =
    (encoded : Entry) × IsFieldEncoding piece encoded × (entry ≡ entry_moved at encoded) × AreEncodings (at + length piece) pieces entries
AreEncodings at [] (entry ∷ entries) = ⊥
AreEncodings at (piece ∷ pieces) [] = ⊥

-- after whole fields, and before the end, is a field that has a defect
pub record HasDefect (bytes : List ℕ) (from : ℕ) (cause : WireCause) : Type 0 where
  pub entries : List Entry
  pub at : ℕ
  pub before : FieldList bytes from entries at
  pub left : at < length bytes
  pub defect : FieldDefect bytes at cause

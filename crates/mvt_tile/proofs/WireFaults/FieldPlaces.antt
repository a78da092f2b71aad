-- Where a field lies in its message.
use Rattle.std.proofs.Common.{◌≡◌, ℕ, ◌+◌, ◌-◌, ◌<◌, ◌≤◌, List, length, ◌∙◌, ap, arith}
use Rattle.std.proofs.lemmas.List.Edits.{length-between}
use Rattle.mvt_wire.specs.Field.{Content, varint, eight_bytes, delimited, four_bytes, Entry, IsPayload, IsField}
use Rattle.mvt_wire.proofs.Encoding.Entries.{field_extent}

-- the payload lies between the field's key and a place
abbrev pub LiesWithin : ℕ → ℕ → Content → Type 0
LiesWithin at next (varint value place) = (at < place) × (place < next)
LiesWithin at next (eight_bytes part) = Unit {0}
LiesWithin at next (delimited from part) = (at < from) × (from + length part ≤ next)
LiesWithin at next (four_bytes part) = Unit {0}

-- the field lies before a place
pub record IsPlaced (entry : Entry) (next : ℕ) : Type 0 where
  pub forward : entry.at < next
  pub payload : LiesWithin entry.at next entry.content

-- where a payload lies
payload_place : (bytes : List ℕ) (at key_end to : ℕ) (content : Content) → at < key_end → IsPayload bytes key_end to content → LiesWithin at to content
payload_place bytes at key_end to (varint value place) forward p = let ahead = p.1.forward in (omega (arith, p.0), omega (arith, p.0))
payload_place bytes at key_end to (eight_bytes part) forward p = tt
payload_place bytes at key_end to (delimited start part) forward p =
    let ahead = p.1.forward in
    let size : length part ≡ to - start = ap length p.4 ∙ length-between bytes start to p.3 in
    (omega arith, omega (arith, p.2))
payload_place bytes at key_end to (four_bytes part) forward p = tt

-- a field lies before the next
pub IsPlaced-field : (bytes : List ℕ) (next : ℕ) (entry : Entry) → IsField bytes next entry → IsPlaced entry next
IsPlaced-field bytes next entry field = record {
  forward = (field_extent bytes next entry field).0;
  payload = payload_place bytes entry.at field.key_end next entry.content field.key.encoded.forward field.payload;
}

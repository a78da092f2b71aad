-- The field that stands at a place of a message, as it is read.
use Rattle.std.proofs.Common.{◌≡◌, ℕ, ◌+◌, ◌*◌, ◌/◌, ◌%◌, ◌^◌, ◌<◌, ◌≤◌, inl, inr, List, length, drop, get_or, refl, ◌∙◌, ap, subst, arith, length-drop}
use Rattle.std.proofs.lemmas.List.{get_or-drop}
use Rattle.mvt_wire.specs.Field.{Content, Entry, wire_type_of, IsKey, IsPayload, IsField, FieldDefect}
use Rattle.mvt_wire.specs.Varint.{EncodesVarint}
use Rattle.mvt_wire.specs.Walk.{Walk, GivesField}
use Rattle.mvt_wire.specs.declared.cause.WireCause.{WireCause}
use Rattle.mvt_wire.proofs.Encoding.Defects.{field_begins}
use Rattle.mvt_wire.proofs.Encoding.Entries.{IsKey-from, field_extent}
use Rattle.mvt_wire.proofs.Encoding.Varints.{IsVarint-take, one_end, one_value, place_encodes, sum_of_groups-take}

-- where a walk comes to no defect, a field stands
pub stands : {bytes : List ℕ} {at : ℕ} {walk : Walk} → record { bytes = bytes; at = at } ≡ walk → ((cause : WireCause) → walk.at < length walk.bytes → ¬ FieldDefect walk.bytes walk.at cause) → at < length bytes
    → (entry : Entry) × (next : ℕ) × (entry.at ≡ at) × IsField bytes next entry
stands {bytes} {at} {walk} is whole left = elim (field_begins bytes at (omega arith)) [
  | inl found ↦ (found.1, found.0, found.2, found.3)
  | inr bad ↦ absurd (whole bad.0 (subst (λ (w : Walk). w.at < length w.bytes) is left) (subst (λ (w : Walk). FieldDefect w.bytes w.at bad.0) is bad.1))
]

-- what stands after the key that was read
pub record IsAfterKey (bytes : List ℕ) (at from key : ℕ) : Type 0 where
  pub numbered : 8 ≤ key
  pub small : key < 2 ^ 32
  pub content : Content
  pub next : ℕ
  pub type : wire_type_of content ≡ key % 8
  pub payload : IsPayload bytes from next content

pub after_key : (bytes : List ℕ) (at from key : ℕ) (entry : Entry) (next : ℕ) → entry.at ≡ at → IsField bytes next entry → EncodesVarint bytes at from key → IsAfterKey bytes at from key
after_key bytes at from key entry next here field encoded =
    let at_key = subst (λ (place : ℕ). EncodesVarint bytes place field.key_end (entry.number * 8 + wire_type_of entry.content)) here field.key.encoded in
    let ends = one_end bytes at field.key_end from (entry.number * 8 + wire_type_of entry.content) key at_key encoded in
    let is = one_value bytes at field.key_end from (entry.number * 8 + wire_type_of entry.content) key at_key encoded in
    let numbered = field.key.numbered in
    let limit = field.key.below_limit in
    let low = field.key.low_bits in
    record {
      numbered = omega (arith, is);
      small = omega (arith, is);
      content = entry.content;
      next = next;
      type = omega (arith, is);
      payload = subst (λ (place : ℕ). IsPayload bytes place next entry.content) ends field.payload;
    }

-- a field with that key and payload stands at the place
pub GivesField-after_key : (bytes : List ℕ) (at from key next field_number : ℕ) (content : Content) → EncodesVarint bytes at from key → 8 ≤ key → key < 2 ^ 32 → field_number ≡ key / 8 → wire_type_of content ≡ key % 8 → IsPayload bytes from next content
    → GivesField (record { bytes = bytes; at = at }) (record { bytes = bytes; at = next }) (record { number = field_number; at = at; content = content })
GivesField-after_key bytes at from key next field_number content encoded numbered small number type payload =
    let is_key : IsKey bytes at from field_number (wire_type_of content) = rw (number, type) (IsKey-from bytes at from key encoded small numbered) in
    let field : IsField bytes next (record { number = field_number; at = at; content = content }) = record { key_end = from; key = is_key; payload = payload } in
    let extent = field_extent bytes next _ field in
    record { left = omega (arith, extent.0, extent.1); here = refl; encoded = field; further = extent.0; within = extent.1; same_bytes = refl }

-- a byte below 128 is a varint of its own
pub one_byte : (bytes : List ℕ) (at : ℕ) → at < length bytes → get_or bytes at 0 < 128 → EncodesVarint bytes at (at + 1) (get_or bytes at 0)
one_byte bytes at within small =
    let size = length-drop at bytes in
    let here : get_or (drop at bytes) 0 0 ≡ get_or bytes at 0 = get_or-drop at bytes 0 0 ∙ ap (λ (place : ℕ). get_or bytes place 0) (omega arith) in
    let value = sum_of_groups-take (drop at bytes) 0 (omega arith) in
    place_encodes bytes at 1 (get_or bytes at 0) (omega arith) (omega arith)
    (IsVarint-take (drop at bytes) 0 (get_or bytes at 0) (omega arith) (omega arith) (λ k less. absurd (omega arith)) (omega arith) (omega arith) (omega arith))

-- a field after a key of one byte
pub GivesField-following : (bytes : List ℕ) (at next field_number : ℕ) (content : Content) → at + 2 ≤ length bytes → 8 ≤ get_or bytes at 0 → get_or bytes at 0 < 128
    → field_number ≡ get_or bytes at 0 / 8 → wire_type_of content ≡ get_or bytes at 0 % 8 → IsPayload bytes (at + 1) next content
    → GivesField (record { bytes = bytes; at = at }) (record { bytes = bytes; at = next }) (record { number = field_number; at = at; content = content })
GivesField-following bytes at next field_number content within numbered small number type payload =
    GivesField-after_key bytes at (at + 1) (get_or bytes at 0) next field_number content (one_byte bytes at (omega arith) small) numbered (omega arith) number type payload

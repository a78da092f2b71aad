-- The name, the version, the keys and the values of a layer, as they are in its message.
use Rattle.std.proofs.Common.{◌≡◌, ℕ, ◌+◌, ◌-◌, ◌≤◌, ◌==◌, inl, inr, List, [], ◌∷◌, length, take, drop, slice_get, slice_range, filter_map, ◌↔◌, Bool, true, false, not, IsTrue, is_some, Option, Some, None, IfSome, IfNone, refl, sym, ◌∙◌, ap, subst, arith, take-append-drop}
use Rattle.std.proofs.lemmas.Bool.{cases_Bool}
use Rattle.std.proofs.lemmas.List.Edits.{length-between}
use Rattle.std.proofs.lemmas.Option.{slice_get_within, slice_get_cases}
use Rattle.mvt_wire.specs.Field.{Content, varint, eight_bytes, delimited, four_bytes, Entry, IsPayload}
use Rattle.mvt_wire.specs.Message.{FieldList}
use Rattle.mvt_wire.specs.Payload.{contents_of, Span, span_of, spans_of, bytes_in, texts_of}
use Rattle.mvt_rules.specs.Scope.{whole_span, IsMessageAt, IsPart, IsScope}
use Rattle.mvt_rules.specs.Tile.{Each, LayerRecord, IsLayer, IsValue, TileRecord, IsTile}
use Rattle.mvt_wire.specs.declared.scope.Scope.TheVariants.{Layer}
use Rattle.mvt_wire.proofs.Parts.Contents.{contents_of-own, contents_of-other}
use Rattle.mvt_wire.proofs.Encoding.Entries.{slice_range-append}
use Rattle.mvt_rules.proofs.Tiles.PairedLists.{each_there, each_here, same_length}
use Rattle.mvt_rules.proofs.Tiles.Tiles.{part_here}
use Rattle.mvt_confirm.specs.Calls.ByteSpan.{as_span}
use Rattle.mvt_confirm.specs.declared.span.ByteSpan.{ByteSpan}
use Rattle.mvt_confirm.proofs.Features.TileScopes.{scope_of_layer}
use Rattle.mvt_confirm.proofs.Wire.Payloads.{one_part}

-- the bytes of a span of a message
abbrev pub IsTextAt : List ℕ → Span → List ℕ → Type 0
IsTextAt message span text = (span.to ≤ length message) × (text ≡ slice_range message span.from span.to)

-- a payload of wire type 2 is the text of its span
text_of_payload : (message : List ℕ) (from to : ℕ) (content : Content) (contents : List Content) → IsPayload message from to content
    → Each (IsTextAt message) (filter_map span_of contents) (filter_map bytes_in contents)
    → Each (IsTextAt message) (filter_map span_of (content ∷ contents)) (filter_map bytes_in (content ∷ contents))
text_of_payload message from to (varint value at) contents payload rest = rest
text_of_payload message from to (eight_bytes part) contents payload rest = rest
text_of_payload message from to (four_bytes part) contents payload rest = rest
text_of_payload message from to (delimited start part) contents payload rest =
    let size : length part ≡ to - start = ap length payload.4 ∙ length-between message start to payload.3 in
    let end : to ≡ start + payload.0 = payload.2 in
    let same : start + length part ≡ to = omega arith in
    ((subst (λ (place : ℕ). place ≤ length message) (sym same) payload.3, payload.4 ∙ ap (slice_range message start) (sym same)), rest)

-- and so are those of all fields of a number
texts_in : (message : List ℕ) (from to field_number : ℕ) (entries : List Entry) → FieldList message from entries to
    → Each (IsTextAt message) (spans_of field_number entries) (texts_of field_number entries)
texts_in message from to field_number [] list = tt
texts_in message from to field_number (entry ∷ entries) list =
    let Texts = λ (contents : List Content). Each (IsTextAt message) (filter_map span_of contents) (filter_map bytes_in contents) in
    let rest = texts_in message list.1.0 to field_number entries list.1.2 in
    elim (cases_Bool (entry.number == field_number)) [
      | inr other ↦ subst Texts (sym (contents_of-other field_number entry entries other)) rest
      | inl own ↦
          let field = list.1.1 in
          subst Texts (sym (contents_of-own field_number entry entries own))
          (text_of_payload message field.key_end list.1.0 entry.content (contents_of field_number entries) field.payload rest)
    ]

-- a span of a front of the bytes is one of the bytes
in_front : (bytes : List ℕ) (end from to : ℕ) → from ≤ to → to ≤ length (take end bytes) → slice_range (take end bytes) from to ≡ slice_range bytes from to
in_front bytes end from to forward within =
    sym (slice_range-append (take end bytes) (drop end bytes) from to forward within)
    ∙ ap (λ (list : List ℕ). slice_range list from to) (take-append-drop end bytes)

-- the name of a layer stands in the payload of its field 1
pub name_here : (bytes : List ℕ) (outer span : Span) (layer_record : LayerRecord) → IsLayer bytes outer layer_record → IsPart bytes outer 1 0 span → span.from ≤ span.to
    → layer_record.name ≡ slice_range bytes span.from span.to
name_here bytes outer span layer_record is part forward =
    let texts = texts_in (take outer.to bytes) outer.from (length (take outer.to bytes)) 1 is.entries is.whole in
    let found = each_there (IsTextAt (take outer.to bytes)) (spans_of 1 is.entries) (texts_of 1 is.entries) 0 span texts (part_here bytes outer 1 0 span is.entries is.whole part) in
    let here : slice_get (layer_record.name ∷ []) 0 ≡ Some found.0 = ap (λ (list : List (List ℕ)). slice_get list 0) (sym is.name) ∙ found.1 in
    let same : layer_record.name ≡ found.0 = cc in
    same ∙ found.2.1 ∙ in_front bytes outer.to span.from span.to forward found.2.0

-- and there is one
pub name_part : (bytes : List ℕ) (outer : Span) (layer_record : LayerRecord) → IsLayer bytes outer layer_record → (span : Span) × IsPart bytes outer 1 0 span
name_part bytes outer layer_record is =
    let texts = texts_in (take outer.to bytes) outer.from (length (take outer.to bytes)) 1 is.entries is.whole in
    let first : slice_get (texts_of 1 is.entries) 0 ≡ Some layer_record.name = ap (λ (list : List (List ℕ)). slice_get list 0) is.name in
    let found = each_here (IsTextAt (take outer.to bytes)) (spans_of 1 is.entries) (texts_of 1 is.entries) 0 layer_record.name texts first in
    (found.0, record { entries = is.entries; whole = is.whole; here = found.1 })

-- a layer has as many keys as payloads of its field 3
pub keys_counted : (bytes : List ℕ) (outer : Span) (layer_record : LayerRecord) (is : IsLayer bytes outer layer_record) → length layer_record.keys ≡ length (spans_of 3 is.entries)
keys_counted bytes outer layer_record is =
    let texts = texts_in (take outer.to bytes) outer.from (length (take outer.to bytes)) 3 is.entries is.whole in
    ap length (sym is.keys) ∙ sym (same_length (IsTextAt (take outer.to bytes)) (spans_of 3 is.entries) (texts_of 3 is.entries) texts)

-- and as many values as payloads of its field 4
pub values_counted : (bytes : List ℕ) (outer : Span) (layer_record : LayerRecord) (is : IsLayer bytes outer layer_record) → length layer_record.values ≡ length (spans_of 4 is.entries)
values_counted bytes outer layer_record is = sym (same_length (IsValue bytes) (spans_of 4 is.entries) layer_record.values is.values)

-- a payload of a layer that isn't found has an ordinal at or above their number
pub none_found : (bytes : List ℕ) (outer : Span) (layer field_number ordinal : ℕ) (entries : List Entry) (found : Option ByteSpan) (test : Bool)
    → IsScope bytes (Layer layer) outer → IsMessageAt bytes outer entries
    → IfSome found (λ span. (other : Span) × IsScope bytes (Layer layer) other × IsPart bytes other field_number ordinal (as_span span))
    → IfNone found ((span other : Span) → IsScope bytes (Layer layer) other → ¬ IsPart bytes other field_number ordinal span)
    → is_some found ≡ not test → IsTrue test ↔ (length (spans_of field_number entries) ≤ ordinal)
none_found bytes outer layer field_number ordinal entries (Some span) true scope whole there none is = absurd (cc)
none_found bytes outer layer field_number ordinal entries (Some span) false scope whole there none is =
    let same = one_part bytes (whole_span bytes) there.0 outer 3 layer there.1 scope in
    let part = subst (λ (own : Span). IsPart bytes own field_number ordinal (as_span span)) same there.2 in
    let within = slice_get_within (spans_of field_number entries) ordinal (as_span span) (part_here bytes outer field_number ordinal (as_span span) entries whole part) in
    (λ holds. absurd (cc), λ beyond. absurd (omega arith))
none_found bytes outer layer field_number ordinal entries None false scope whole there none is = absurd (cc)
none_found bytes outer layer field_number ordinal entries None true scope whole there none is = (
  λ holds. elim (slice_get_cases (spans_of field_number entries) ordinal).1 [
    | inl here ↦ absurd (none here.0 outer scope (record { entries = entries; whole = whole; here = here.2 }))
    | inr following ↦ following.0
  ],
  λ beyond. refl,
)

-- a tag is at or above a number
abbrev pub IsBeyond : Option ℕ → ℕ → Type 0
IsBeyond tag count = (own : ℕ) × (tag ≡ Some own) × (count ≤ own)

module _ (bytes : List ℕ) (tile : TileRecord) (layer : ℕ) (layer_record : LayerRecord) (tag : Option ℕ) (test : Bool) (is : IsTile bytes tile) (there : slice_get tile.layers layer ≡ Some layer_record) where
  -- a test of the payloads of a number in the layer
  abbrev Counts : ℕ → Type 0
  Counts field_number = (outer : Span) (entries : List Entry) → IsScope bytes (Layer layer) outer → IsMessageAt bytes outer entries → IsTrue test ↔ IsBeyond tag (length (spans_of field_number entries))

  -- is one of its keys
  pub keys_beyond : Counts 3 → IsTrue test ↔ IsBeyond tag (length layer_record.keys)
  keys_beyond counts =
      let found = scope_of_layer bytes tile layer layer_record is there in
      subst (λ (n : ℕ). IsTrue test ↔ IsBeyond tag n) (sym (keys_counted bytes found.0 layer_record found.2)) (counts found.0 found.2.entries found.1 found.2.whole)

  -- or of its values
  pub values_beyond : Counts 4 → IsTrue test ↔ IsBeyond tag (length layer_record.values)
  values_beyond counts =
      let found = scope_of_layer bytes tile layer layer_record is there in
      subst (λ (n : ℕ). IsTrue test ↔ IsBeyond tag n) (sym (values_counted bytes found.0 layer_record found.2)) (counts found.0 found.2.entries found.1 found.2.whole)

-- The messages of a tile, each as bytes of its own.
use Rattle.std.proofs.Common.{◌≡◌, ℕ, ◌+◌, ◌-◌, ◌≤◌, ◌==◌, inl, inr, List, [], ◌∷◌, length, take, drop, slice_range, filter_map, All, Some, refl, sym, ◌∙◌, ap, subst, arith}
use Rattle.std.specs.List.{cons_option}
use Rattle.std.proofs.Math.Seq.{take-length}
use Rattle.std.proofs.lemmas.Bool.{cases_eq, eqb-true, eq-eqb, ne_eqb}
use Rattle.std.proofs.lemmas.List.{take-append-drop}
use Rattle.std.proofs.lemmas.List.Edits.{length-between}
use Rattle.std.proofs.lemmas.List.Elements.{All-nil, All-cons, All-head, All-tail}
use Rattle.mvt_confirm.specs.Calls.Walking.{HoldsMessage, HoldsLayer}
use Rattle.mvt_confirm.proofs.Wire.WholeTiles.{layers_hold}
use Rattle.mvt_wire.specs.Field.{Content, varint, eight_bytes, delimited, four_bytes, Entry, wire_type_of, IsPayload}
use Rattle.mvt_wire.specs.Message.{FieldList, IsMessage, content_moved, entry_moved}
use Rattle.mvt_wire.specs.Schema.{field_rule, rule_of, is_own}
use Rattle.mvt_wire.specs.Payload.{Span, span_of, spans_of, bytes_in, count_of}
use Rattle.mvt_rules.specs.Tile.{Fits, TileRecord, IsTile}
use Rattle.mvt_rules.specs.Parts.Fields.{FitsRule}
use Rattle.mvt_wire.specs.declared.schema.FieldRule.{FieldRule}
use Rattle.mvt_wire.specs.declared.schema.Message.{Message}
use Rattle.mvt_wire.specs.declared.schema.Message.TheVariants as messages
use Rattle.mvt_wire.specs.declared.schema.Occurrence.TheVariants.{AnyNumber, AtLeastOnce}
use Rattle.mvt_wire.specs.declared.schema.Shape.TheVariants.{Embedded, Numbers}
use Rattle.mvt_wire.proofs.Encoding.Entries.{slice_range-append}
use Rattle.mvt_wire.proofs.Encoding.Messages.{one_list}
use Rattle.mvt_wire.proofs.Parts.Contents.{contents_of-own, contents_of-other}
use Rattle.mvt_splice.specs.Calls.Messages.{EmbedsWhole, IsFeatureMessage, IsLayerMessage, IsTileMessage}
use Rattle.mvt_splice.proofs.Splicing.Pieces.{fields_at, whole_pieces, pieced_at, All-moved, count_of-moved}

-- a payload is the same wherever it is
pub bytes_in-moved : (by : ℕ) (content : Content) → bytes_in (content_moved by content) ≡ bytes_in content
bytes_in-moved by (varint value at) = refl
bytes_in-moved by (eight_bytes part) = refl
bytes_in-moved by (delimited from part) = refl
bytes_in-moved by (four_bytes part) = refl

EmbedsWhole-moved : (field_number : ℕ) (Holds : List ℕ → Type 0) (by other : ℕ) (entry : Entry) → EmbedsWhole field_number Holds (entry_moved by entry) → EmbedsWhole field_number Holds (entry_moved other entry)
EmbedsWhole-moved field_number Holds by other entry embeds = λ own.
    let found = embeds own in
    (found.0, bytes_in-moved other entry.content ∙ sym (bytes_in-moved by entry.content) ∙ found.1, found.2)

-- a part of a front is the same part of all
slice_range-front : (bytes : List ℕ) (end from to : ℕ) → from ≤ to → to ≤ length (take end bytes) → slice_range (take end bytes) from to ≡ slice_range bytes from to
slice_range-front bytes end from to forward within =
    sym (slice_range-append (take end bytes) (drop end bytes) from to forward within)
    ∙ ap (λ (list : List ℕ). slice_range list from to) (take-append-drop end bytes)

module _ (bytes : List ℕ) (end : ℕ) (message : Message) (field_number : ℕ) (rule : FieldRule) (known : rule_of message field_number ≡ Some rule) (own_type : (t : ℕ) → is_own rule.shape t ≡ (t == 2))
    (Stands : Span → Type 0) (Holds : List ℕ → Type 0) (holds : (span : Span) → span.from ≤ span.to → Stands span → Holds (slice_range bytes span.from span.to)) where
  -- what a payload after a length embeds
  embedded_one : (from to : ℕ) (content : Content) (spans : List Span) → from ≤ length (take end bytes) → IsPayload (take end bytes) from to content → wire_type_of content ≡ 2 → All Stands (cons_option (span_of content) spans)
      → ((part : List ℕ) × (bytes_in content ≡ Some part) × Holds part) × All Stands spans
  embedded_one from to (delimited start part) spans within payload type stand =
      let span : Span = record { from = start; to = start + length part } in
      let forward : start ≤ to = omega (arith, payload.2) in
      let long : length part ≡ to - start = ap length payload.4 ∙ length-between (take end bytes) start to payload.3 in
      let place : start + length part ≡ to = omega arith in
      let same : slice_range bytes start (start + length part) ≡ part = ap (λ (stop : ℕ). slice_range bytes start stop) place ∙ sym (slice_range-front bytes end start to forward payload.3) ∙ sym payload.4 in
      ((part, refl, subst Holds same (holds span (omega arith) (All-head Stands span spans stand))), All-tail Stands span spans stand)
  embedded_one from to content spans within payload type stand = absurd (omega arith)

  -- the fields of the number embed what their spans hold
  embedded : (from to : ℕ) (entries : List Entry) → FieldList (take end bytes) from entries to → All (FitsRule message) entries → All Stands (spans_of field_number entries) → All (EmbedsWhole field_number Holds) entries
  embedded from to [] list fits stand = All-nil (EmbedsWhole field_number Holds)
  embedded from to (entry ∷ entries) list fits stand =
      let later = All-tail (FitsRule message) entry entries fits in
      elim (cases_eq entry.number field_number) [
        | inl own ↦
            let fit : Fits rule entry.content = All-head (FitsRule message) entry entries fits rule (ap (rule_of message) own ∙ known) in
            let type : wire_type_of entry.content ≡ 2 = eqb-true (wire_type_of entry.content) 2 (sym (own_type (wire_type_of entry.content)) ∙ fit.own) in
            let field = list.1.1 in
            let same : spans_of field_number (entry ∷ entries) ≡ cons_option (span_of entry.content) (spans_of field_number entries) =
            ap (filter_map span_of) (contents_of-own field_number entry entries (eq-eqb entry.number field_number own)) in
            let one = embedded_one field.key_end list.1.0 entry.content (spans_of field_number entries) field.key.encoded.within field.payload type (subst (All Stands) same stand) in
            All-cons (EmbedsWhole field_number Holds) entry entries (λ also. one.0) (embedded list.1.0 to entries list.1.2 later one.1)
        | inr other ↦
            let same : spans_of field_number (entry ∷ entries) ≡ spans_of field_number entries =
            ap (filter_map span_of) (contents_of-other field_number entry entries (ne_eqb entry.number field_number other)) in
            All-cons (EmbedsWhole field_number Holds) entry entries (λ own. absurd (other own)) (embedded list.1.0 to entries list.1.2 later (subst (All Stands) same stand))
      ]

-- the message of a feature
feature_message : (bytes : List ℕ) (span : Span) → span.from ≤ span.to → HoldsMessage messages.Feature bytes span → IsFeatureMessage (slice_range bytes span.from span.to)
feature_message bytes span forward held =
    let found = pieced_at bytes span held.entries forward held.whole in
    let least : 1 ≤ count_of 4 held.entries = held.have.at_least 4 (field_rule 4 Numbers AtLeastOnce) refl refl in
    record {
      fields = fields_at 0 found.0;
      whole = whole_pieces (slice_range bytes span.from span.to) found.0 found.1;
      drawn = subst (λ (n : ℕ). 1 ≤ n) (ap (count_of 4) found.2 ∙ count_of-moved 4 span.from 0 found.0) least;
    }

-- the message of a layer
layer_message : (bytes : List ℕ) (span : Span) → span.from ≤ span.to → HoldsLayer bytes span → IsLayerMessage (slice_range bytes span.from span.to)
layer_message bytes span forward held =
    let own = held.own in
    let features = held.features in
    let found = pieced_at bytes span own.entries forward own.whole in
    let same : features.entries ≡ own.entries = one_list (take span.to bytes) span.from features.entries own.entries features.whole own.whole in
    let stand : All (HoldsMessage messages.Feature bytes) (spans_of 2 own.entries) = subst (λ (entries : List Entry). All (HoldsMessage messages.Feature bytes) (spans_of 2 entries)) same features.have in
    let all : All (EmbedsWhole 2 IsFeatureMessage) own.entries =
    embedded bytes span.to messages.Layer 2 (field_rule 2 Embedded AnyNumber) refl (λ t. refl) (HoldsMessage messages.Feature bytes) IsFeatureMessage (feature_message bytes)
    span.from (length (take span.to bytes)) own.entries own.whole own.have.fits stand in
    record {
      fields = fields_at 0 found.0;
      whole = whole_pieces (slice_range bytes span.from span.to) found.0 found.1;
      features = All-moved (EmbedsWhole 2 IsFeatureMessage) (EmbedsWhole-moved 2 IsFeatureMessage) span.from 0 found.0
          (subst (All (EmbedsWhole 2 IsFeatureMessage)) found.2 all);
    }

-- the message of a tile
pub tile_message : (bytes : List ℕ) (tile : TileRecord) → IsTile bytes tile → IsTileMessage bytes
tile_message bytes tile is =
    let held = layers_hold bytes tile is in
    let same : held.entries ≡ is.entries = one_list (take (length bytes) bytes) 0 held.entries is.entries held.whole is.whole in
    let stand : All (HoldsLayer bytes) (spans_of 3 is.entries) = subst (λ (entries : List Entry). All (HoldsLayer bytes) (spans_of 3 entries)) same held.have in
    record {
      fields = is.entries;
      whole = subst (λ (list : List ℕ). IsMessage list 0 is.entries) (take-length bytes) is.whole;
      layers = embedded bytes (length bytes) messages.Tile 3 (field_rule 3 Embedded AnyNumber) refl (λ t. refl) (HoldsLayer bytes) IsLayerMessage (layer_message bytes)
          0 (length (take (length bytes) bytes)) is.entries is.whole is.keeps.fits stand;
    }

-- a payload with bytes after a length has wire type 2
pub type_of_bytes : (content : Content) (message : List ℕ) → bytes_in content ≡ Some message → wire_type_of content ≡ 2
type_of_bytes (delimited start part) message there = refl
type_of_bytes content message there = absurd (cc)

-- a field that embeds a message holds what it should
pub embeds_held : (field_number : ℕ) (Holds : List ℕ → Type 0) (entry : Entry) (message : List ℕ) → EmbedsWhole field_number Holds entry → entry.number ≡ field_number → bytes_in entry.content ≡ Some message → Holds message
embeds_held field_number Holds entry message embeds own there =
    let found = embeds own in
    let same : found.0 ≡ message = let both : Some found.0 ≡ Some message = sym found.1 ∙ there in cc in
    subst Holds same found.2

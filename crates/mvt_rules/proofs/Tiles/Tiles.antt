-- The tile that bytes are: there is one just where they have no wire fault, and only one.
use Rattle.std.proofs.Common.{◌≡◌, ℕ, ◌⊎◌, inl, inr, List, [], ◌∷◌, length, take, slice_get, unwrap_or, Some, refl, sym, ◌∙◌, ap, subst, arith}
use Rattle.std.proofs.lemmas.Bool.{eqb-true}
use Rattle.mvt_wire.specs.Field.{Entry}
use Rattle.mvt_wire.specs.Payload.{Span, spans_of, numbers_of, texts_of}
use Rattle.mvt_rules.specs.Scope.{whole_span, IsMessageAt, IsPart, IsScope, message_of}
use Rattle.mvt_rules.specs.Tile.{KeepsSchema, FeatureRecord, IsFeature, ValueRecord, IsValue, LayerRecord, IsLayer, TileRecord, IsTile, Each}
use Rattle.mvt_rules.specs.WireFault.{MessageFault, WireFault}
use Rattle.mvt_wire.specs.declared.cause.WireCause.{WireCause}
use Rattle.mvt_wire.specs.declared.schema.Message.{Message}
use Rattle.mvt_wire.specs.declared.schema.Message.TheVariants as messages
use Rattle.mvt_wire.specs.declared.schema.Occurrence.TheVariants.{Once}
use Rattle.mvt_wire.specs.declared.schema.Shape.TheVariants.{Text, Uint32}
use Rattle.mvt_wire.specs.declared.scope.Scope.{Scope}
use Rattle.mvt_wire.specs.declared.scope.Scope.TheVariants.{Tile, Layer, Value, Feature}
use Rattle.mvt_rules.proofs.Tiles.Contents.{one_number, one_text}
use Rattle.mvt_rules.proofs.Tiles.Judgements.{message_judged, message_or_fault}
use Rattle.mvt_rules.proofs.Tiles.PairedLists.{each_there}
use Rattle.mvt_wire.proofs.Encoding.Messages.{one_list}
use Rattle.mvt_rules.proofs.Tiles.Records.{feature_or_fault, one_feature, value_or_fault, one_value_record}
use Rattle.mvt_rules.proofs.Tiles.Spans.{Within, spans_within, begins_within, one_each, each_or_bad}

-- a span is faulty as a message
abbrev pub SpanFault : Message → List ℕ → Span → Type 0
SpanFault message bytes span = (cause : WireCause) × MessageFault message (take span.to bytes) span.from cause

-- a payload of a number in a message is faulty
abbrev pub PartFault : Message → List ℕ → Span → ℕ → Type 0
PartFault message bytes outer field_number = (ordinal : ℕ) × (span : Span) × IsPart bytes outer field_number ordinal span × SpanFault message bytes span

-- a layer is faulty, or one of its values or features is
abbrev pub LayerFault : List ℕ → Span → Type 0
LayerFault bytes span = SpanFault messages.Layer bytes span ⊎ PartFault messages.Value bytes span 4 ⊎ PartFault messages.Feature bytes span 2

-- a whole layer that keeps its schema has a record, where its features and values do
layer_of_fields : (bytes : List ℕ) (span : Span) (entries : List Entry) (features : List FeatureRecord) (values : List ValueRecord) → IsMessageAt bytes span entries → KeepsSchema messages.Layer entries → Each (IsFeature bytes) (spans_of 2 entries) features → Each (IsValue bytes) (spans_of 4 entries) values
    → (layer : LayerRecord) × IsLayer bytes span layer
layer_of_fields bytes span entries features values whole keeps have_features have_values =
    let version = one_number messages.Layer 15 (record { number = 15; shape = Uint32; occurrence = Once }) entries keeps refl (λ t own. eqb-true t 0 own) refl refl in
    let name = one_text messages.Layer 1 (record { number = 1; shape = Text; occurrence = Once }) entries keeps refl (λ t own. eqb-true t 2 own) refl refl in (
      record {
        version = version.0;
        name = name.0;
        features = features;
        keys = texts_of 3 entries;
        values = values;
        extent = unwrap_or (slice_get (numbers_of 5 entries) 0) 4096;
      },
      record {
        entries = entries;
        whole = whole;
        keeps = keeps;
        version = version.1;
        name = name.1;
        features = have_features;
        keys = refl;
        values = have_values;
        extent = refl;
      },
    )

-- the first bad payload of a number, as a faulty part
part_fault : (message : Message) (bytes : List ℕ) (outer : Span) (field_number : ℕ) (entries : List Entry) → IsMessageAt bytes outer entries → (ordinal : ℕ) (span : Span) → slice_get (spans_of field_number entries) ordinal ≡ Some span → SpanFault message bytes span → PartFault message bytes outer field_number
part_fault message bytes outer field_number entries whole ordinal span here fault =
    (ordinal, span, record { entries = entries; whole = whole; here = here }, fault)

layer_of_kept : (bytes : List ℕ) (span : Span) (entries : List Entry) → IsMessageAt bytes span entries → KeepsSchema messages.Layer entries → ((layer : LayerRecord) × IsLayer bytes span layer) ⊎ LayerFault bytes span
layer_of_kept bytes span entries whole keeps =
    elim (each_or_bad bytes (IsValue bytes) (SpanFault messages.Value bytes) (value_or_fault bytes) (spans_of 4 entries) (spans_within bytes span 4 entries whole)) [
      | inr bad ↦ inr (inr (inl (part_fault messages.Value bytes span 4 entries whole bad.0 bad.1 bad.2 bad.3)))
      | inl values ↦ elim (each_or_bad bytes (IsFeature bytes) (SpanFault messages.Feature bytes) (feature_or_fault bytes) (spans_of 2 entries) (spans_within bytes span 2 entries whole)) [
        | inr bad ↦ inr (inr (inr (part_fault messages.Feature bytes span 2 entries whole bad.0 bad.1 bad.2 bad.3)))
        | inl features ↦ inl (layer_of_fields bytes span entries features.0 values.0 whole keeps features.1 values.1)
      ]
    ]

-- a span holds a layer, or a fault of one or of its parts
layer_or_fault : (bytes : List ℕ) (span : Span) → Within bytes span → ((layer : LayerRecord) × IsLayer bytes span layer) ⊎ LayerFault bytes span
layer_or_fault bytes span within = elim (message_judged messages.Layer (take span.to bytes) span.from (begins_within bytes span within)) [
  | inl kept ↦ layer_of_kept bytes span kept.0 kept.1 kept.2
  | inr fault ↦ inr (inl fault)
]

-- a wire fault of the bytes, somewhere
abbrev pub SomeWireFault : List ℕ → Type 0
SomeWireFault bytes = (scope : Scope) × (cause : WireCause) × WireFault bytes scope cause

-- the fault of a layer is a wire fault of the bytes
layer_fault : (bytes : List ℕ) (layer : ℕ) (span : Span) → IsPart bytes (whole_span bytes) 3 layer span → LayerFault bytes span → SomeWireFault bytes
layer_fault bytes layer span part (inl fault) = (Layer layer, fault.0, record { span = span; there = part; fault = fault.1 })
layer_fault bytes layer span part (inr (inl bad)) = (Value layer bad.0, bad.3.0, record { span = bad.1; there = (span, part, bad.2); fault = bad.3.1 })
layer_fault bytes layer span part (inr (inr bad)) = (Feature layer bad.0, bad.3.0, record { span = bad.1; there = (span, part, bad.2); fault = bad.3.1 })

tile_of_kept : (bytes : List ℕ) (entries : List Entry) → IsMessageAt bytes (whole_span bytes) entries → KeepsSchema messages.Tile entries → ((tile : TileRecord) × IsTile bytes tile) ⊎ SomeWireFault bytes
tile_of_kept bytes entries whole keeps =
    elim (each_or_bad bytes (IsLayer bytes) (LayerFault bytes) (layer_or_fault bytes) (spans_of 3 entries) (spans_within bytes (whole_span bytes) 3 entries whole)) [
      | inl layers ↦ inl (record { layers = layers.0 }, record { entries = entries; whole = whole; keeps = keeps; layers = layers.1 })
      | inr bad ↦ inr (layer_fault bytes bad.0 bad.1 (record { entries = entries; whole = whole; here = bad.2 }) bad.3)
    ]

-- bytes are a tile, or have a wire fault
pub tile_or_fault : (bytes : List ℕ) → ((tile : TileRecord) × IsTile bytes tile) ⊎ ((scope : Scope) × (cause : WireCause) × WireFault bytes scope cause)
tile_or_fault bytes = elim (message_judged messages.Tile (take (length bytes) bytes) 0 (omega arith)) [
  | inl kept ↦ tile_of_kept bytes kept.0 kept.1 kept.2
  | inr fault ↦ inr (Tile, fault.0, record { span = whole_span bytes; there = refl; fault = fault.1 })
]

-- a part of a message lies where its field list says
pub part_here : (bytes : List ℕ) (outer : Span) (field_number ordinal : ℕ) (span : Span) (entries : List Entry) → IsMessageAt bytes outer entries → IsPart bytes outer field_number ordinal span → slice_get (spans_of field_number entries) ordinal ≡ Some span
part_here bytes outer field_number ordinal span entries whole part =
    let same : entries ≡ part.entries = one_list (take outer.to bytes) outer.from entries part.entries whole part.whole in
    ap (λ (es : List Entry). slice_get (spans_of field_number es) ordinal) same ∙ part.here

-- the layer of a tile that a part is
layer_at : (bytes : List ℕ) (tile : TileRecord) (ordinal : ℕ) (span : Span) → IsTile bytes tile → IsPart bytes (whole_span bytes) 3 ordinal span → (layer : LayerRecord) × IsLayer bytes span layer
layer_at bytes tile ordinal span is part =
    let member = each_there (IsLayer bytes) (spans_of 3 is.entries) tile.layers ordinal span is.layers (part_here bytes (whole_span bytes) 3 ordinal span is.entries is.whole part) in
    (member.0, member.2)

-- a span that keeps a schema is not faulty
span_or_fault : (message : Message) (bytes : List ℕ) (span : Span) (entries : List Entry) (cause : WireCause) → IsMessageAt bytes span entries → KeepsSchema message entries → MessageFault message (take span.to bytes) span.from cause → ⊥
span_or_fault message bytes span entries cause whole keeps fault = message_or_fault message (take span.to bytes) span.from entries cause whole keeps fault

no_scope_fault : (bytes : List ℕ) (tile : TileRecord) (scope : Scope) (span : Span) (cause : WireCause) → IsTile bytes tile → IsScope bytes scope span → MessageFault (message_of scope) (take span.to bytes) span.from cause → ⊥
no_scope_fault bytes tile Tile span cause is there fault =
    span_or_fault messages.Tile bytes (whole_span bytes) is.entries cause is.whole is.keeps (subst (λ (s : Span). MessageFault messages.Tile (take s.to bytes) s.from cause) there fault)
no_scope_fault bytes tile (Layer layer) span cause is there fault =
    let held = (layer_at bytes tile layer span is there).1 in
    span_or_fault messages.Layer bytes span held.entries cause held.whole held.keeps fault
no_scope_fault bytes tile (Value layer value) span cause is there fault =
    let outer = (layer_at bytes tile layer there.0 is there.1).1 in
    let here = part_here bytes there.0 4 value span outer.entries outer.whole there.2 in
    let held = (each_there (IsValue bytes) (spans_of 4 outer.entries) _ value span outer.values here).2 in
    span_or_fault messages.Value bytes span held.entries cause held.whole held.keeps fault
no_scope_fault bytes tile (Feature layer feature) span cause is there fault =
    let outer = (layer_at bytes tile layer there.0 is there.1).1 in
    let here = part_here bytes there.0 2 feature span outer.entries outer.whole there.2 in
    let held = (each_there (IsFeature bytes) (spans_of 2 outer.entries) _ feature span outer.features here).2 in
    span_or_fault messages.Feature bytes span held.entries cause held.whole held.keeps fault

-- bytes that are a tile have no wire fault
pub tile_faultless : (bytes : List ℕ) (tile : TileRecord) (scope : Scope) (cause : WireCause) → IsTile bytes tile → WireFault bytes scope cause → ⊥
tile_faultless bytes tile scope cause is fault = no_scope_fault bytes tile scope fault.span cause is fault.there fault.fault

same_layer : (a b : LayerRecord) → a.version ≡ b.version → a.name ≡ b.name → a.features ≡ b.features → a.keys ≡ b.keys → a.values ≡ b.values → a.extent ≡ b.extent → a ≡ b
same_layer a b versions names features keys values extents = λ i. record { version = versions i; name = names i; features = features i; keys = keys i; values = values i; extent = extents i }

-- a span holds one layer
pub one_layer : (bytes : List ℕ) (span : Span) (first second : LayerRecord) → IsLayer bytes span first → IsLayer bytes span second → first ≡ second
one_layer bytes span first second h k =
    let same : h.entries ≡ k.entries = one_list (take span.to bytes) span.from h.entries k.entries h.whole k.whole in
    let versions : first.version ∷ [] ≡ second.version ∷ [] = sym h.version ∙ ap (λ (es : List Entry). numbers_of 15 es) same ∙ k.version in
    let names : first.name ∷ [] ≡ second.name ∷ [] = sym h.name ∙ ap (λ (es : List Entry). texts_of 1 es) same ∙ k.name in
    let features : Each (IsFeature bytes) (spans_of 2 k.entries) first.features = subst (λ (es : List Entry). Each (IsFeature bytes) (spans_of 2 es) first.features) same h.features in
    let values : Each (IsValue bytes) (spans_of 4 k.entries) first.values = subst (λ (es : List Entry). Each (IsValue bytes) (spans_of 4 es) first.values) same h.values in
    same_layer first second
    (let version : first.version ≡ second.version = cc in version)
    (let name : first.name ≡ second.name = cc in name)
    (one_each (IsFeature bytes) (one_feature bytes) (spans_of 2 k.entries) first.features second.features features k.features)
    (sym h.keys ∙ ap (λ (es : List Entry). texts_of 3 es) same ∙ k.keys)
    (one_each (IsValue bytes) (one_value_record bytes) (spans_of 4 k.entries) first.values second.values values k.values)
    (h.extent ∙ ap (λ (es : List Entry). unwrap_or (slice_get (numbers_of 5 es) 0) 4096) same ∙ sym k.extent)

-- bytes are one tile
pub one_tile : (bytes : List ℕ) (first second : TileRecord) → IsTile bytes first → IsTile bytes second → first ≡ second
one_tile bytes first second h k =
    let same : h.entries ≡ k.entries = one_list (take (length bytes) bytes) 0 h.entries k.entries h.whole k.whole in
    let layers : Each (IsLayer bytes) (spans_of 3 k.entries) first.layers = subst (λ (es : List Entry). Each (IsLayer bytes) (spans_of 3 es) first.layers) same h.layers in
    let made : List LayerRecord → TileRecord = λ layers. record { layers = layers } in
    ap made (one_each (IsLayer bytes) (one_layer bytes) (spans_of 3 k.entries) first.layers second.layers layers k.layers)

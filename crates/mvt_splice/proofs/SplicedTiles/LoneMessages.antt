-- Features, values, layers and tiles as their messages state them by themselves, wherever these lie in other bytes.
use Rattle.std.proofs.Common.{◌≡◌, ℕ, ◌+◌, ◌-◌, ◌≤◌, ◌==◌, inl, inr, List, [], ◌∷◌, length, map, take, drop, filter, filter_map, slice_get, slice_range, is_some, unwrap_or, sym, ◌∙◌, ap, subst, arith}
use Rattle.std.proofs.lemmas.Bool.{cases_Bool}
use Rattle.std.proofs.lemmas.List.{length-take, take_all, take-append-drop}
use Rattle.std.proofs.lemmas.List.Edits.{length-between}
use Rattle.mvt_wire.specs.Field.{Content, delimited, Entry, IsPayload}
use Rattle.mvt_wire.specs.Message.{FieldList, IsMessage, entry_moved}
use Rattle.mvt_wire.specs.Number.{StateTogether}
use Rattle.mvt_wire.specs.Schema.{rule_of}
use Rattle.mvt_wire.specs.Payload.{contents_of, Span, span_of, spans_of, numbers_of, texts_of, bytes_in}
use Rattle.mvt_rules.specs.Scope.{whole_span, IsMessageAt}
use Rattle.mvt_rules.specs.Tile.{Each, KeepsSchema, FeatureRecord, IsFeature, ValueRecord, Says, IsValue, LayerRecord, IsLayer, TileRecord, IsTile}
use Rattle.mvt_wire.specs.declared.schema.Message.TheVariants as messages
use Rattle.mvt_wire.proofs.Encoding.Entries.{slice_range-append}
use Rattle.mvt_wire.proofs.Encoding.Messages.{one_list}
use Rattle.mvt_wire.proofs.Parts.Contents.{contents_of-own, contents_of-other}
use Rattle.mvt_splice.specs.Splice.{Piece, IsPieced}
use Rattle.mvt_splice.proofs.SplicedTiles.MovedMessages.{Holds, message_alone, message_placed}
use Rattle.mvt_splice.proofs.SplicedTiles.PairedFields.{each_back, each_through, each_single, each_weaker}
use Rattle.mvt_splice.proofs.SplicedTiles.PiecedMessages.{fields_in, placed, pieced_message, fields_placed}
use Rattle.mvt_splice.proofs.SplicedTiles.SameFields.{IsSameField, field_back, fields_first_moved, same_filtered, same_contents, same_numbers, same_texts, StateTogether-same, Says-same, KeepsSchema-same}

-- the same fields at other places, in either direction
fields_back : (before after : List Entry) → Each IsSameField before after → Each IsSameField after before
fields_back before after each = each_back IsSameField IsSameField field_back before after each

-- What fields state, wherever they lie

-- a feature
pub record StatesFeature (entries : List Entry) (feature : FeatureRecord) : Type 0 where
  pub keeps : KeepsSchema messages.Feature entries
  pub id : feature.id ≡ slice_get (numbers_of 1 entries) 0
  pub tags : StateTogether (contents_of 2 entries) feature.tags
  pub kind : numbers_of 3 entries ≡ feature.kind ∷ []
  pub geometry : StateTogether (contents_of 4 entries) feature.geometry

pub StatesFeature-same : (before after : List Entry) (feature : FeatureRecord) → Each IsSameField before after → StatesFeature before feature → StatesFeature after feature
StatesFeature-same before after feature each states = record {
  keeps = KeepsSchema-same messages.Feature before after each states.keeps;
  id = states.id ∙ ap (λ (list : List ℕ). slice_get list 0) (sym (same_numbers 1 before after (same_contents 1 before after each)));
  tags = StateTogether-same (contents_of 2 before) (contents_of 2 after) feature.tags (same_contents 2 before after each) states.tags;
  kind = same_numbers 3 before after (same_contents 3 before after each) ∙ states.kind;
  geometry = StateTogether-same (contents_of 4 before) (contents_of 4 after) feature.geometry (same_contents 4 before after each) states.geometry;
}

abbrev known_in : List Entry → List Entry
known_in entries = filter (λ (e : Entry). is_some (rule_of messages.Value e.number)) entries

-- a value
pub record StatesValue (entries : List Entry) (value : ValueRecord) : Type 0 where
  pub keeps : KeepsSchema messages.Value entries
  pub entry : Entry
  pub known : known_in entries ≡ entry ∷ []
  pub says : Says entry.number entry.content value

pub StatesValue-same : (before after : List Entry) (value : ValueRecord) → Each IsSameField before after → StatesValue before value → StatesValue after value
StatesValue-same before after value each states =
    let known = same_filtered (λ (k : ℕ). is_some (rule_of messages.Value k)) before after each in
    let alone = each_single IsSameField states.entry (known_in after) (subst (λ (list : List Entry). Each IsSameField list (known_in after)) states.known known) in
    let same : IsSameField states.entry alone.0 = alone.2 in
    record {
      keeps = KeepsSchema-same messages.Value before after each states.keeps;
      entry = alone.0;
      known = alone.1;
      says = subst (λ (n : ℕ). Says n alone.0.content value) (sym same.number) (Says-same states.entry.number states.entry.content alone.0.content value same.payload states.says);
    }

-- a message by itself states it
pub record Alone {R : Type 0} (StatesIt : List Entry → R → Type 0) (part : List ℕ) (it : R) : Type 0 where
  pub entries : List Entry
  pub whole : IsMessage part 0 entries
  pub states : StatesIt entries it

abbrev pub FeatureAlone : List ℕ → FeatureRecord → Type 0
FeatureAlone = Alone StatesFeature

abbrev pub ValueAlone : List ℕ → ValueRecord → Type 0
ValueAlone = Alone StatesValue

-- a layer
pub record StatesLayer (entries : List Entry) (layer : LayerRecord) : Type 0 where
  pub keeps : KeepsSchema messages.Layer entries
  pub version : numbers_of 15 entries ≡ layer.version ∷ []
  pub name : texts_of 1 entries ≡ layer.name ∷ []
  pub features : Each FeatureAlone (texts_of 2 entries) layer.features
  pub keys : texts_of 3 entries ≡ layer.keys
  pub values : Each ValueAlone (texts_of 4 entries) layer.values
  pub extent : layer.extent ≡ unwrap_or (slice_get (numbers_of 5 entries) 0) 4096

abbrev pub LayerAlone : List ℕ → LayerRecord → Type 0
LayerAlone = Alone StatesLayer

pub StatesLayer-same : (before after : List Entry) (layer : LayerRecord) → Each IsSameField before after → StatesLayer before layer → StatesLayer after layer
StatesLayer-same before after layer each states =
    let texts : (n : ℕ) → texts_of n after ≡ texts_of n before = λ n. same_texts n before after (same_contents n before after each) in
    let numbers : (n : ℕ) → numbers_of n after ≡ numbers_of n before = λ n. same_numbers n before after (same_contents n before after each) in
    record {
      keeps = KeepsSchema-same messages.Layer before after each states.keeps;
      version = numbers 15 ∙ states.version;
      name = texts 1 ∙ states.name;
      features = subst (λ (parts : List (List ℕ)). Each FeatureAlone parts layer.features) (sym (texts 2)) states.features;
      keys = texts 3 ∙ states.keys;
      values = subst (λ (parts : List (List ℕ)). Each ValueAlone parts layer.values) (sym (texts 4)) states.values;
      extent = states.extent ∙ ap (λ (list : List ℕ). unwrap_or (slice_get list 0) 4096) (sym (numbers 5));
    }

-- a tile
pub record StatesTile (entries : List Entry) (tile : TileRecord) : Type 0 where
  pub keeps : KeepsSchema messages.Tile entries
  pub layers : Each LayerAlone (texts_of 3 entries) tile.layers

abbrev pub TileAlone : List ℕ → TileRecord → Type 0
TileAlone = Alone StatesTile

pub StatesTile-same : (before after : List Entry) (tile : TileRecord) → Each IsSameField before after → StatesTile before tile → StatesTile after tile
StatesTile-same before after tile each states = record {
  keeps = KeepsSchema-same messages.Tile before after each states.keeps;
  layers = subst (λ (parts : List (List ℕ)). Each LayerAlone parts tile.layers) (sym (same_texts 3 before after (same_contents 3 before after each))) states.layers;
}

-- Messages in other bytes

module _ {R : Type 0} (StatesIt : List Entry → R → Type 0) (same : (before after : List Entry) (it : R) → Each IsSameField before after → StatesIt before it → StatesIt after it) where
  -- a message in bytes that states something states it by itself
  alone_from : (bytes : List ℕ) (span : Span) (part : List ℕ) (it : R) (entries : List Entry) → Holds bytes span part → IsMessageAt bytes span entries → StatesIt entries it → Alone StatesIt part it
  alone_from bytes span part it entries held whole states =
      let found = message_alone bytes span part entries held whole in
      let each : Each IsSameField entries found.0 =
      subst (λ (list : List Entry). Each IsSameField list found.0) (sym found.1) (fields_back found.0 (map (entry_moved span.from) found.0) (fields_first_moved span.from found.0)) in
      record { entries = found.0; whole = found.2; states = same entries found.0 it each states }

  -- and the other way round
  placed_from : (bytes : List ℕ) (span : Span) (part : List ℕ) (it : R) → Holds bytes span part → Alone StatesIt part it → (entries : List Entry) × IsMessageAt bytes span entries × StatesIt entries it
  placed_from bytes span part it held alone = (
    map (entry_moved span.from) alone.entries,
    message_placed bytes span part alone.entries held alone.whole,
    same alone.entries (map (entry_moved span.from) alone.entries) it (fields_first_moved span.from alone.entries) alone.states,
  )

  -- what a message joined of pieces states is stated by their fields
  pub pieces_state : (part : List ℕ) (pieces : List Piece) (it : R) → IsPieced part pieces → Alone StatesIt part it → StatesIt (fields_in pieces) it
  pieces_state part pieces it pieced alone =
      let one : alone.entries ≡ placed 0 pieces = one_list part 0 alone.entries (placed 0 pieces) alone.whole (pieced_message part pieces pieced) in
      same (placed 0 pieces) (fields_in pieces) it (fields_back (fields_in pieces) (placed 0 pieces) (fields_placed 0 pieces)) (subst (λ (list : List Entry). StatesIt list it) one alone.states)

  pub joined_states : (part : List ℕ) (pieces : List Piece) (it : R) → IsPieced part pieces → StatesIt (fields_in pieces) it → Alone StatesIt part it
  joined_states part pieces it pieced states = record {
    entries = placed 0 pieces;
    whole = pieced_message part pieces pieced;
    states = same (fields_in pieces) (placed 0 pieces) it (fields_placed 0 pieces) states;
  }

-- a payload of a front of the bytes is one of the bytes
Holds-longer : (bytes : List ℕ) (end : ℕ) (span : Span) (part : List ℕ) → Holds (take end bytes) span part → Holds bytes span part
Holds-longer bytes end span part held =
    let forward = held.forward in
    let within = held.within in
    let front = length-take end bytes in
    record {
      forward = forward;
      within = omega arith;
      is = held.is ∙ sym (slice_range-append (take end bytes) (drop end bytes) span.from span.to forward within) ∙ ap (λ (list : List ℕ). slice_range list span.from span.to) (take-append-drop end bytes);
    }

payload_held : (bytes : List ℕ) (from to : ℕ) (content : Content) (contents : List Content) → IsPayload bytes from to content → Each (Holds bytes) (filter_map span_of contents) (filter_map bytes_in contents)
    → Each (Holds bytes) (filter_map span_of (content ∷ contents)) (filter_map bytes_in (content ∷ contents))
payload_held bytes from to (delimited start part) contents p rest =
    let size : length part ≡ to - start = ap length p.4 ∙ length-between bytes start to p.3 in
    let end : to ≡ start + length part = omega arith in
    let inside : to ≤ length bytes = p.3 in (
      record { forward = omega arith; within = omega arith; is = p.4 ∙ ap (λ (k : ℕ). slice_range bytes start k) end },
      rest,
    )
payload_held bytes from to content contents p rest = rest

payloads_held : (bytes : List ℕ) (from to n : ℕ) (entries : List Entry) → FieldList bytes from entries to → Each (Holds bytes) (spans_of n entries) (texts_of n entries)
payloads_held bytes from to n [] list = tt
payloads_held bytes from to n (entry ∷ entries) list =
    let rest = payloads_held bytes list.1.0 to n entries list.1.2 in
    elim (cases_Bool (entry.number == n)) [
      | inr other ↦ subst (λ (contents : List Content). Each (Holds bytes) (filter_map span_of contents) (filter_map bytes_in contents)) (sym (contents_of-other n entry entries other)) rest
      | inl own ↦
          let field = list.1.1 in
          subst (λ (contents : List Content). Each (Holds bytes) (filter_map span_of contents) (filter_map bytes_in contents)) (sym (contents_of-own n entry entries own))
          (payload_held bytes field.key_end list.1.0 entry.content (contents_of n entries) field.payload rest)
    ]

-- the spans of a message's payloads hold their bytes
spans_hold : (bytes : List ℕ) (outer : Span) (n : ℕ) (entries : List Entry) → IsMessageAt bytes outer entries → Each (Holds bytes) (spans_of n entries) (texts_of n entries)
spans_hold bytes outer n entries whole =
    each_weaker (Holds (take outer.to bytes)) (Holds bytes) (Holds-longer bytes outer.to) (spans_of n entries) (texts_of n entries)
    (payloads_held (take outer.to bytes) outer.from (length (take outer.to bytes)) n entries whole)

-- features
pub feature_alone : (bytes : List ℕ) (span : Span) (part : List ℕ) (feature : FeatureRecord) → Holds bytes span part → IsFeature bytes span feature → FeatureAlone part feature
feature_alone bytes span part feature held is =
    alone_from StatesFeature StatesFeature-same bytes span part feature is.entries held is.whole
    (record { keeps = is.keeps; id = is.id; tags = is.tags; kind = is.kind; geometry = is.geometry })

pub feature_placed : (bytes : List ℕ) (span : Span) (part : List ℕ) (feature : FeatureRecord) → Holds bytes span part → FeatureAlone part feature → IsFeature bytes span feature
feature_placed bytes span part feature held alone =
    let found = placed_from StatesFeature StatesFeature-same bytes span part feature held alone in
    let states : StatesFeature found.0 feature = found.2 in
    record { entries = found.0; whole = found.1; keeps = states.keeps; id = states.id; tags = states.tags; kind = states.kind; geometry = states.geometry }

-- values
value_alone : (bytes : List ℕ) (span : Span) (part : List ℕ) (value : ValueRecord) → Holds bytes span part → IsValue bytes span value → ValueAlone part value
value_alone bytes span part value held is =
    alone_from StatesValue StatesValue-same bytes span part value is.entries held is.whole (record { keeps = is.keeps; entry = is.entry; known = is.known; says = is.says })

value_placed : (bytes : List ℕ) (span : Span) (part : List ℕ) (value : ValueRecord) → Holds bytes span part → ValueAlone part value → IsValue bytes span value
value_placed bytes span part value held alone =
    let found = placed_from StatesValue StatesValue-same bytes span part value held alone in
    let states : StatesValue found.0 value = found.2 in
    record { entries = found.0; whole = found.1; keeps = states.keeps; entry = states.entry; known = states.known; says = states.says }

-- what belongs to the spans belongs to the bytes that they hold, and the other way round
module _ {R : Type 0} (bytes : List ℕ) (IsIt : Span → R → Type 0) (IsAlone : List ℕ → R → Type 0) where
  by_parts : ((span : Span) (part : List ℕ) (it : R) → Holds bytes span part → IsIt span it → IsAlone part it) → (spans : List Span) (parts : List (List ℕ)) (its : List R) → Each (Holds bytes) spans parts → Each IsIt spans its → Each IsAlone parts its
  by_parts leads spans parts its held each =
      each_through (λ (part : List ℕ) (span : Span). Holds bytes span part) IsIt IsAlone (λ part span it holds is. leads span part it holds is) parts spans its
      (each_back (Holds bytes) (λ (part : List ℕ) (span : Span). Holds bytes span part) (λ span part holds. holds) spans parts held) each

  by_spans : ((span : Span) (part : List ℕ) (it : R) → Holds bytes span part → IsAlone part it → IsIt span it) → (spans : List Span) (parts : List (List ℕ)) (its : List R) → Each (Holds bytes) spans parts → Each IsAlone parts its → Each IsIt spans its
  by_spans leads spans parts its held each = each_through (Holds bytes) IsAlone IsIt leads spans parts its held each

-- layers
layer_alone : (bytes : List ℕ) (span : Span) (part : List ℕ) (layer : LayerRecord) → Holds bytes span part → IsLayer bytes span layer → LayerAlone part layer
layer_alone bytes span part layer held is =
    alone_from StatesLayer StatesLayer-same bytes span part layer is.entries held is.whole (record {
      keeps = is.keeps;
      version = is.version;
      name = is.name;
      features = by_parts bytes (IsFeature bytes) FeatureAlone (feature_alone bytes) (spans_of 2 is.entries) (texts_of 2 is.entries) layer.features (spans_hold bytes span 2 is.entries is.whole) is.features;
      keys = is.keys;
      values = by_parts bytes (IsValue bytes) ValueAlone (value_alone bytes) (spans_of 4 is.entries) (texts_of 4 is.entries) layer.values (spans_hold bytes span 4 is.entries is.whole) is.values;
      extent = is.extent;
    })

layer_placed : (bytes : List ℕ) (span : Span) (part : List ℕ) (layer : LayerRecord) → Holds bytes span part → LayerAlone part layer → IsLayer bytes span layer
layer_placed bytes span part layer held alone =
    let found = placed_from StatesLayer StatesLayer-same bytes span part layer held alone in
    let states : StatesLayer found.0 layer = found.2 in
    record {
      entries = found.0;
      whole = found.1;
      keeps = states.keeps;
      version = states.version;
      name = states.name;
      features = by_spans bytes (IsFeature bytes) FeatureAlone (feature_placed bytes) (spans_of 2 found.0) (texts_of 2 found.0) layer.features (spans_hold bytes span 2 found.0 found.1) states.features;
      keys = states.keys;
      values = by_spans bytes (IsValue bytes) ValueAlone (value_placed bytes) (spans_of 4 found.0) (texts_of 4 found.0) layer.values (spans_hold bytes span 4 found.0 found.1) states.values;
      extent = states.extent;
    }

-- tiles
holds_itself : (bytes : List ℕ) → Holds bytes (whole_span bytes) bytes
holds_itself bytes = record { forward = omega arith; within = omega arith; is = sym (take_all (length bytes - 0) bytes (omega arith)) }

pub tile_alone : (bytes : List ℕ) (tile : TileRecord) → IsTile bytes tile → TileAlone bytes tile
tile_alone bytes tile is =
    alone_from StatesTile StatesTile-same bytes (whole_span bytes) bytes tile is.entries (holds_itself bytes) is.whole (record {
      keeps = is.keeps;
      layers = by_parts bytes (IsLayer bytes) LayerAlone (layer_alone bytes) (spans_of 3 is.entries) (texts_of 3 is.entries) tile.layers (spans_hold bytes (whole_span bytes) 3 is.entries is.whole) is.layers;
    })

pub tile_placed : (bytes : List ℕ) (tile : TileRecord) → TileAlone bytes tile → IsTile bytes tile
tile_placed bytes tile alone =
    let found = placed_from StatesTile StatesTile-same bytes (whole_span bytes) bytes tile (holds_itself bytes) alone in
    let states : StatesTile found.0 tile = found.2 in
    record {
      entries = found.0;
      whole = found.1;
      keeps = states.keeps;
      layers = by_spans bytes (IsLayer bytes) LayerAlone (layer_placed bytes) (spans_of 3 found.0) (texts_of 3 found.0) tile.layers (spans_hold bytes (whole_span bytes) 3 found.0 found.1) states.layers;
    }

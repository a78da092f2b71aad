-- A layer whose message was spliced is that layer with the features that are left.
use Rattle.std.proofs.Common.{◌≡◌, ◌≢◌, ◌⊎◌, ℕ, suc, ◌+◌, ◌==◌, not, inl, inr, List, [], ◌∷◌, ◌++◌, filter_map, slice_get, unwrap_or, All, Option, Some, None, refl, sym, ◌∙◌, ap, subst, arith}
use Rattle.std.specs.List.{cons_option}
use Rattle.std.proofs.lemmas.Bool.{cases_Bool, cond-true, cond-false, eqb-true, eq-eqb}
use Rattle.std.proofs.lemmas.List.{map-append}
use Rattle.std.proofs.lemmas.List.Elements.{All-nil, All-cons, All-head, All-tail, All-append, filter-append, filter_map-append}
use Rattle.std.proofs.lemmas.Option.{same_Some}
use Rattle.mvt_wire.specs.Field.{Content, delimited, Entry}
use Rattle.mvt_wire.specs.Number.{AreSmall}
use Rattle.mvt_wire.specs.Schema.{rule_of, is_own, field_rule}
use Rattle.mvt_wire.specs.Payload.{contents_of, number_in, bytes_in, texts_of}
use Rattle.mvt_rules.specs.Parts.Fields.{FitsRule}
use Rattle.mvt_rules.specs.Tile.{Each, Fits, FeatureRecord, LayerRecord}
use Rattle.mvt_wire.specs.declared.schema.FieldRule.{FieldRule}
use Rattle.mvt_wire.specs.declared.schema.Message.{Message}
use Rattle.mvt_wire.specs.declared.schema.Message.TheVariants as messages
use Rattle.mvt_wire.specs.declared.schema.Occurrence.TheVariants.{AnyNumber}
use Rattle.mvt_wire.specs.declared.schema.Shape.TheVariants.{Embedded, Text, Numbers}
use Rattle.mvt_wire.proofs.Encoding.Payloads.{contents_of-append}
use Rattle.mvt_wire.proofs.Parts.Contents.{contents_of-own, contents_of-other}
use Rattle.mvt_splice.specs.Splice.{Fate, stays, redrawn, dropped, Piece, message_in, ordinal_after, HasPayload, Becomes, BecomesInLayer, AreInLayer, IsSplicedLayer}
use Rattle.mvt_splice.specs.SplicedTile.{feature_after, features_after, layer_after}
use Rattle.mvt_splice.proofs.SplicedTiles.LoneMessages.{StatesLayer, StatesLayer-same, FeatureAlone, ValueAlone, LayerAlone, pieces_state, joined_states}
use Rattle.mvt_splice.proofs.SplicedTiles.OtherFields.{fields_but, same_contents_of, KeepsSchema-but}
use Rattle.mvt_splice.proofs.SplicedTiles.PairedFields.{each_append}
use Rattle.mvt_splice.proofs.SplicedTiles.PiecedMessages.{fields_in}
use Rattle.mvt_splice.proofs.SplicedTiles.RedrawnFeatures.{feature_redrawn}

-- Messages that fields embed

pub option_cases : {A : Type 0} (o : Option A) → (o ≡ None) ⊎ ((x : A) × (o ≡ Some x))
option_cases None = inl refl
option_cases (Some x) = inr (x, refl)

-- a field that embeds a message has the number, and its payload is the message
pub embedding : (n : ℕ) (field : Entry) (message : List ℕ) → message_in n field ≡ Some message → (field.number ≡ n) × (bytes_in field.content ≡ Some message)
embedding n field message is = elim (cases_Bool (field.number == n)) [
  | inl own ↦ (eqb-true field.number n own, sym (cond-true (field.number == n) (bytes_in field.content) None own) ∙ is)
  | inr other ↦ let none : message_in n field ≡ None = cond-false (field.number == n) (bytes_in field.content) None other in absurd (cc)
]

pub embedded : (n : ℕ) (field : Entry) (message : List ℕ) → HasPayload n message field → message_in n field ≡ Some message
embedded n field message embeds = cond-true (field.number == n) (bytes_in field.content) None (eq-eqb field.number n embeds.numbered) ∙ ap bytes_in embeds.content

-- the fields of pieces that haven't a number, and the texts of those that have it
abbrev pub others : ℕ → List Piece → List Entry
others n pieces = fields_but n (fields_in pieces)

abbrev pub texts : ℕ → List Piece → List (List ℕ)
texts n pieces = texts_of n (fields_in pieces)

pub others-append : (n : ℕ) (xs ys : List Piece) → others n (xs ++ ys) ≡ others n xs ++ others n ys
others-append n xs ys =
    ap (fields_but n) (map-append (λ (piece : Piece). piece.field) xs ys) ∙ filter-append (λ (e : Entry). not (e.number == n)) (fields_in xs) (fields_in ys)

pub texts-append : (n : ℕ) (xs ys : List Piece) → texts n (xs ++ ys) ≡ texts n xs ++ texts n ys
texts-append n xs ys =
    ap (texts_of n) (map-append (λ (piece : Piece). piece.field) xs ys) ∙ ap (filter_map bytes_in) (contents_of-append n (fields_in xs) (fields_in ys))
    ∙ filter_map-append bytes_in (contents_of n (fields_in xs)) (contents_of n (fields_in ys))

-- a field of the number is none of the others
pub no_other : (n : ℕ) (piece : Piece) → piece.field.number ≡ n → others n (piece ∷ []) ≡ []
no_other n piece numbered = cond-false (not (piece.field.number == n)) (piece.field ∷ []) [] (ap not (eq-eqb piece.field.number n numbered))

-- the text of one piece
pub text_of_one : (n : ℕ) (piece : Piece) (message : List ℕ) → message_in n piece.field ≡ Some message → texts n (piece ∷ []) ≡ message ∷ []
text_of_one n piece message is =
    let it = embedding n piece.field message is in
    ap (filter_map bytes_in) (contents_of-own n piece.field [] (eq-eqb piece.field.number n it.0)) ∙ ap (λ (o : Option (List ℕ)). cons_option o []) it.1

pub no_text_of_one : (n : ℕ) (piece : Piece) → message_in n piece.field ≡ None → texts n (piece ∷ []) ≡ []
no_text_of_one n piece none = elim (cases_Bool (piece.field.number == n)) [
  | inr other ↦ ap (filter_map bytes_in) (contents_of-other n piece.field [] other)
  | inl own ↦
      let bytes : bytes_in piece.field.content ≡ None = sym (cond-true (piece.field.number == n) (bytes_in piece.field.content) None own) ∙ none in
      ap (filter_map bytes_in) (contents_of-own n piece.field [] own) ∙ ap (λ (o : Option (List ℕ)). cons_option o []) bytes
]

-- a message embedded in a field of its number fits the rule
embedded_content_fits : (rule : FieldRule) (place : ℕ) (payload : List ℕ) → rule.shape ≡ Embedded → Fits rule (delimited place payload)
embedded_content_fits rule place payload shape = record {
  own = ap (λ s. is_own s 2) shape;
  text = λ from part other is. let no : Embedded ≡ Text = sym shape ∙ other in absurd (cc);
  in_range = λ value at is. absurd (cc);
  packed = λ from part other is. let no : Embedded ≡ Numbers = sym shape ∙ other in absurd (cc);
}

pub embedded_fits : (message : Message) (n : ℕ) (payload : List ℕ) (field : Entry) → rule_of message n ≡ Some (field_rule n Embedded AnyNumber) → HasPayload n payload field → FitsRule message field
embedded_fits message n payload field ruled embeds rule known =
    let one : field_rule n Embedded AnyNumber ≡ rule = same_Some (field_rule n Embedded AnyNumber) rule (sym ruled ∙ ap (rule_of message) (sym embeds.numbered) ∙ known) in
    subst (Fits rule) (sym embeds.content) (embedded_content_fits rule embeds.place payload (sym (ap (λ (r : FieldRule). r.shape) one)))

-- Layers

-- a feature's field in a layer, whatever became of it, is none of the other fields
becomes_others : (fate : Fate) (message : List ℕ) (piece : Piece) (after : List Piece) → piece.field.number ≡ 2 → Becomes fate message piece after → others 2 after ≡ others 2 (piece ∷ [])
becomes_others stays message piece after numbered becomes = ap (others 2) becomes
becomes_others (redrawn geometry) message piece after numbered becomes =
    let drawn : Piece = becomes.0 in
    ap (others 2) becomes.2 ∙ no_other 2 drawn becomes.3.numbered ∙ sym (no_other 2 piece numbered)
becomes_others dropped message piece after numbered becomes = ap (others 2) becomes ∙ sym (no_other 2 piece numbered)

-- so the other fields are the same
other_fields : (fates : ℕ → Fate) (ordinal : ℕ) (pieces after : List Piece) → AreInLayer fates ordinal pieces after → others 2 after ≡ others 2 pieces
other_fields fates ordinal [] after are = ap (others 2) are
other_fields fates ordinal (piece ∷ pieces) after are =
    let first : List Piece = are.0 in
    let rest : List Piece = are.1 in
    let tail : others 2 rest ≡ others 2 pieces = other_fields fates (ordinal_after (message_in 2 piece.field) ordinal) pieces rest are.4 in
    let head : others 2 first ≡ others 2 (piece ∷ []) = elim (option_cases (message_in 2 piece.field)) [
      | inl none ↦ ap (others 2) (subst (λ (message : Option (List ℕ)). BecomesInLayer (fates ordinal) message piece first) none are.3)
      | inr some ↦
          becomes_others (fates ordinal) some.0 piece first ((embedding 2 piece.field some.0 some.1).0)
          (subst (λ (message : Option (List ℕ)). BecomesInLayer (fates ordinal) message piece first) some.1 are.3)
    ] in
    ap (others 2) are.2 ∙ others-append 2 first rest ∙ ap (λ (list : List Entry). list ++ others 2 rest) head ∙ ap (λ (list : List Entry). others 2 (piece ∷ []) ++ list) tail
    ∙ sym (others-append 2 (piece ∷ []) pieces)

-- what became of a feature's field fits the rule for it
becomes_fits : (fate : Fate) (message : List ℕ) (piece : Piece) (after : List Piece) → FitsRule messages.Layer piece.field → Becomes fate message piece after → All (FitsRule messages.Layer) (fields_in after)
becomes_fits stays message piece after fits becomes =
    subst (λ (list : List Piece). All (FitsRule messages.Layer) (fields_in list)) (sym becomes) (All-cons (FitsRule messages.Layer) piece.field [] fits (All-nil (FitsRule messages.Layer)))
becomes_fits (redrawn geometry) message piece after fits becomes =
    let drawn : Piece = becomes.0 in
    subst (λ (list : List Piece). All (FitsRule messages.Layer) (fields_in list)) (sym becomes.2)
    (All-cons (FitsRule messages.Layer) drawn.field [] (embedded_fits messages.Layer 2 becomes.1 drawn.field refl becomes.3) (All-nil (FitsRule messages.Layer)))
becomes_fits dropped message piece after fits becomes = subst (λ (list : List Piece). All (FitsRule messages.Layer) (fields_in list)) (sym becomes) (All-nil (FitsRule messages.Layer))

fields_fit : (fates : ℕ → Fate) (ordinal : ℕ) (pieces after : List Piece) → AreInLayer fates ordinal pieces after → All (FitsRule messages.Layer) (fields_in pieces) → All (FitsRule messages.Layer) (fields_in after)
fields_fit fates ordinal [] after are fit = subst (λ (list : List Piece). All (FitsRule messages.Layer) (fields_in list)) (sym are) fit
fields_fit fates ordinal (piece ∷ pieces) after are fit =
    let first : List Piece = are.0 in
    let rest : List Piece = are.1 in
    let own = All-head (FitsRule messages.Layer) piece.field (fields_in pieces) fit in
    let tail = fields_fit fates (ordinal_after (message_in 2 piece.field) ordinal) pieces rest are.4 (All-tail (FitsRule messages.Layer) piece.field (fields_in pieces) fit) in
    let head : All (FitsRule messages.Layer) (fields_in first) = elim (option_cases (message_in 2 piece.field)) [
      | inl none ↦ becomes_fits stays [] piece first own (subst (λ (message : Option (List ℕ)). BecomesInLayer (fates ordinal) message piece first) none are.3)
      | inr some ↦ becomes_fits (fates ordinal) some.0 piece first own (subst (λ (message : Option (List ℕ)). BecomesInLayer (fates ordinal) message piece first) some.1 are.3)
    ] in
    subst (λ (list : List Piece). All (FitsRule messages.Layer) (fields_in list)) (sym are.2)
    (subst (λ (list : List Entry). All (FitsRule messages.Layer) list) (sym (map-append (λ (piece : Piece). piece.field) first rest))
    (All-append (FitsRule messages.Layer) (fields_in first) (fields_in rest) head tail))

-- features, the first of which has this ordinal, are drawn with small numbers
abbrev pub DrawSmall : (ℕ → Fate) → ℕ → List FeatureRecord → Type 0
DrawSmall fates ordinal features = (k : ℕ) (feature : FeatureRecord) (geometry : List ℕ) → slice_get features k ≡ Some feature → fates (ordinal + k) ≡ redrawn geometry → AreSmall geometry

-- what is left of one feature
feature_becomes : (fate : Fate) (message : List ℕ) (piece : Piece) (after : List Piece) (feature : FeatureRecord) → message_in 2 piece.field ≡ Some message → Becomes fate message piece after → ((geometry : List ℕ) → fate ≡ redrawn geometry → AreSmall geometry) → FeatureAlone message feature
    → Each FeatureAlone (texts 2 after) (feature_after fate feature)
feature_becomes stays message piece after feature is becomes small alone =
    subst (λ (list : List (List ℕ)). Each FeatureAlone list (feature ∷ [])) (sym (ap (texts 2) becomes ∙ text_of_one 2 piece message is)) (alone, tt)
feature_becomes (redrawn geometry) message piece after feature is becomes small alone =
    let drawn : Piece = becomes.0 in
    let text : texts 2 after ≡ becomes.1 ∷ [] = ap (texts 2) becomes.2 ∙ text_of_one 2 drawn becomes.1 (embedded 2 drawn.field becomes.1 becomes.3) in
    subst (λ (list : List (List ℕ)). Each FeatureAlone list (feature_after (redrawn geometry) feature)) (sym text)
    (feature_redrawn geometry message becomes.1 feature becomes.4 (small geometry refl) alone, tt)
feature_becomes dropped message piece after feature is becomes small alone = subst (λ (list : List (List ℕ)). Each FeatureAlone list []) (sym (ap (texts 2) becomes)) tt

-- what is left of the features of some fields, wherever they stand
abbrev FeaturesBecome : (ℕ → Fate) → List Piece → Type 0
FeaturesBecome fates pieces = (ordinal : ℕ) (after : List Piece) (features : List FeatureRecord) → AreInLayer fates ordinal pieces after → DrawSmall fates ordinal features → Each FeatureAlone (texts 2 pieces) features
    → Each FeatureAlone (texts 2 after) (features_after fates ordinal features)

module _ (fates : ℕ → Fate) (piece : Piece) (pieces : List Piece) (further : FeaturesBecome fates pieces) (ordinal : ℕ) (after : List Piece) (are : AreInLayer fates ordinal (piece ∷ pieces) after) where
  together : texts 2 after ≡ texts 2 are.0 ++ texts 2 are.1
  together = ap (texts 2) are.2 ∙ texts-append 2 are.0 are.1

  -- the first field is no feature
  no_feature : (features : List FeatureRecord) → message_in 2 piece.field ≡ None → DrawSmall fates ordinal features → Each FeatureAlone (texts 2 (piece ∷ pieces)) features → Each FeatureAlone (texts 2 after) (features_after fates ordinal features)
  no_feature features none small each =
      let same : are.0 ≡ piece ∷ [] = subst (λ (message : Option (List ℕ)). BecomesInLayer (fates ordinal) message piece are.0) none are.3 in
      let next : AreInLayer fates ordinal pieces are.1 = subst (λ (message : Option (List ℕ)). AreInLayer fates (ordinal_after message ordinal) pieces are.1) none are.4 in
      let left : texts 2 (piece ∷ pieces) ≡ texts 2 pieces = texts-append 2 (piece ∷ []) pieces ∙ ap (λ (list : List (List ℕ)). list ++ texts 2 pieces) (no_text_of_one 2 piece none) in
      let tail = further ordinal are.1 features next small (subst (λ (list : List (List ℕ)). Each FeatureAlone list features) left each) in
      subst (λ (list : List (List ℕ)). Each FeatureAlone list (features_after fates ordinal features))
      (sym (together ∙ ap (λ (list : List (List ℕ)). list ++ texts 2 are.1) (ap (texts 2) same ∙ no_text_of_one 2 piece none))) tail

  -- it is one
  a_feature : (features : List FeatureRecord) (message : List ℕ) → message_in 2 piece.field ≡ Some message → DrawSmall fates ordinal features → Each FeatureAlone (message ∷ texts 2 pieces) features → Each FeatureAlone (texts 2 after) (features_after fates ordinal features)
  a_feature [] message is small each = absurd each
  a_feature (feature ∷ features) message is small each =
      let becomes : Becomes (fates ordinal) message piece are.0 = subst (λ (message : Option (List ℕ)). BecomesInLayer (fates ordinal) message piece are.0) is are.3 in
      let next : AreInLayer fates (suc ordinal) pieces are.1 = subst (λ (message : Option (List ℕ)). AreInLayer fates (ordinal_after message ordinal) pieces are.1) is are.4 in
      let head = feature_becomes (fates ordinal) message piece are.0 feature is becomes
      (λ geometry drawn. small 0 feature geometry refl (ap fates (omega arith) ∙ drawn)) each.0 in
      let tail = further (suc ordinal) are.1 features next (λ k other geometry here drawn. small (suc k) other geometry here (ap fates (omega arith) ∙ drawn)) each.1 in
      subst (λ (list : List (List ℕ)). Each FeatureAlone list (features_after fates ordinal (feature ∷ features))) (sym together)
      (each_append FeatureAlone (texts 2 are.0) (feature_after (fates ordinal) feature) (texts 2 are.1) (features_after fates (suc ordinal) features) head tail)

  first_on : (features : List FeatureRecord) → DrawSmall fates ordinal features → Each FeatureAlone (texts 2 (piece ∷ pieces)) features → Each FeatureAlone (texts 2 after) (features_after fates ordinal features)
  first_on features small each = elim (option_cases (message_in 2 piece.field)) [
    | inl none ↦ no_feature features none small each
    | inr some ↦
        let left : texts 2 (piece ∷ pieces) ≡ some.0 ∷ texts 2 pieces =
        texts-append 2 (piece ∷ []) pieces ∙ ap (λ (list : List (List ℕ)). list ++ texts 2 pieces) (text_of_one 2 piece some.0 some.1) in
        a_feature features some.0 some.1 small (subst (λ (list : List (List ℕ)). Each FeatureAlone list features) left each)
  ]

features_become : (fates : ℕ → Fate) (pieces : List Piece) → FeaturesBecome fates pieces
features_become fates [] ordinal after [] are small each = subst (λ (list : List Piece). Each FeatureAlone (texts 2 list) []) (sym are) tt
features_become fates [] ordinal after (feature ∷ features) are small each = absurd each
features_become fates (piece ∷ pieces) ordinal after features are small each = first_on fates piece pieces (features_become fates pieces) ordinal after are features small each

-- a layer's fields after the changes state the layer that is left
layer_states : (fates : ℕ → Fate) (pieces after : List Piece) (layer : LayerRecord) → AreInLayer fates 0 pieces after → DrawSmall fates 0 layer.features → StatesLayer (fields_in pieces) layer → StatesLayer (fields_in after) (layer_after fates layer)
layer_states fates pieces after layer are small states =
    let same : fields_but 2 (fields_in after) ≡ fields_but 2 (fields_in pieces) = other_fields fates 0 pieces after are in
    let contents : (k : ℕ) → k ≢ 2 → contents_of k (fields_in after) ≡ contents_of k (fields_in pieces) = λ k other. same_contents_of 2 k (fields_in pieces) (fields_in after) other same in
    record {
      keeps = KeepsSchema-but messages.Layer 2 (field_rule 2 Embedded AnyNumber) (fields_in pieces) (fields_in after) refl refl (λ required. absurd (cc)) (λ value. absurd (cc)) same
          (fields_fit fates 0 pieces after are states.keeps.fits) states.keeps;
      version = ap (filter_map number_in) (contents 15 (λ is. absurd (omega arith))) ∙ states.version;
      name = ap (filter_map bytes_in) (contents 1 (λ is. absurd (omega arith))) ∙ states.name;
      features = features_become fates pieces 0 after layer.features are small states.features;
      keys = ap (filter_map bytes_in) (contents 3 (λ is. absurd (omega arith))) ∙ states.keys;
      values = subst (λ (list : List Content). Each ValueAlone (filter_map bytes_in list) layer.values) (sym (contents 4 (λ is. absurd (omega arith)))) states.values;
      extent = states.extent ∙ ap (λ (list : List Content). unwrap_or (slice_get (filter_map number_in list) 0) 4096) (sym (contents 5 (λ is. absurd (omega arith))));
    }

-- so a spliced layer's message is that layer
pub layer_spliced : (fates : ℕ → Fate) (before after : List ℕ) (layer : LayerRecord) → IsSplicedLayer fates before after → DrawSmall fates 0 layer.features → LayerAlone before layer → LayerAlone after (layer_after fates layer)
layer_spliced fates before after layer it small alone =
    joined_states StatesLayer StatesLayer-same after it.pieces_after (layer_after fates layer) it.whole_after
    (layer_states fates it.pieces it.pieces_after layer it.fields small (pieces_state StatesLayer StatesLayer-same before it.pieces layer it.whole alone))

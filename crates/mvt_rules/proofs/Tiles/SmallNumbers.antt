-- In a message that keeps its schema the numbers of a field of numbers have 32 bits, and end with the message.
use Rattle.std.proofs.Common.{◌≡◌, ℕ, ◌^◌, ◌<◌, false, List, [], ◌∷◌, Some, None, All, take, refl, sym, subst}
use Rattle.std.proofs.lemmas.Bool.{leb-false}
use Rattle.std.proofs.lemmas.List.Elements.{All-nil, All-cons, All-head, All-tail, All-append}
use Rattle.mvt_wire.specs.Field.{Content, varint, delimited, Entry}
use Rattle.mvt_wire.specs.Message.{IsMessage}
use Rattle.mvt_wire.specs.Number.{States, StateTogether, AreSmall}
use Rattle.mvt_wire.specs.Numbers.{NumbersEnd}
use Rattle.mvt_rules.specs.Rules.{IsFeatureOf}
use Rattle.mvt_wire.specs.Schema.{field_rule, rule_of, is_out_of_range}
use Rattle.mvt_wire.specs.Payload.{contents_of, spans_of, Span}
use Rattle.mvt_rules.specs.Tile.{Fits, KeepsSchema, FeatureRecord, IsFeature, LayerRecord, IsLayer, TileRecord, IsTile}
use Rattle.mvt_wire.specs.declared.schema.FieldRule.{FieldRule}
use Rattle.mvt_wire.specs.declared.schema.Message.{Message}
use Rattle.mvt_wire.specs.declared.schema.Message.TheVariants.{Feature}
use Rattle.mvt_wire.specs.declared.schema.Occurrence.TheVariants.{AnyNumber, AtLeastOnce}
use Rattle.mvt_wire.specs.declared.schema.Shape.{Shape}
use Rattle.mvt_wire.specs.declared.schema.Shape.TheVariants.{Numbers}
use Rattle.mvt_rules.proofs.Tiles.Contents.{contents_fit}
use Rattle.mvt_wire.proofs.Parts.Contents.{one_stated}
use Rattle.mvt_rules.proofs.Tiles.PairedLists.{each_here}

-- a field of numbers that fits its rule states small ones
states_small : (rule : FieldRule) (content : Content) (numbers : List ℕ) → rule.shape ≡ Numbers → Fits rule content → States content numbers → AreSmall numbers
states_small rule (varint value at) numbers shape fits states =
    let range : is_out_of_range Numbers value ≡ false = subst (λ (s : Shape). is_out_of_range s value ≡ false) shape (fits.in_range value at refl) in
    subst AreSmall (sym states) (All-cons (λ (n : ℕ). n < 2 ^ 32) value [] (leb-false (2 ^ 32) value range) (All-nil (λ (n : ℕ). n < 2 ^ 32)))
states_small rule (delimited from part) numbers shape fits states =
    let given = fits.packed from part shape refl in
    subst AreSmall (one_stated (delimited from part) given.0 numbers given.1 states) given.2
states_small rule content numbers shape fits states = absurd states

-- so do several together
together_small : (rule : FieldRule) (contents : List Content) (numbers : List ℕ) → rule.shape ≡ Numbers → All (Fits rule) contents → StateTogether contents numbers → AreSmall numbers
together_small rule [] numbers shape fits states = subst AreSmall (sym states) (All-nil (λ (n : ℕ). n < 2 ^ 32))
together_small rule (content ∷ contents) numbers shape fits states =
    let first = states_small rule content states.0 shape (All-head (Fits rule) content contents fits) states.2 in
    let rest = together_small rule contents states.1 shape (All-tail (Fits rule) content contents fits) states.3 in
    subst AreSmall (sym states.4) (All-append (λ (n : ℕ). n < 2 ^ 32) states.0 states.1 first rest)

-- the numbers of a whole message that keeps its schema end with it
ends_with_message : (message : Message) (k : ℕ) (rule : FieldRule) (bytes : List ℕ) (from : ℕ) (entries : List Entry) (numbers : List ℕ) → rule_of message k ≡ Some rule → rule.shape ≡ Numbers → KeepsSchema message entries → IsMessage bytes from entries → StateTogether (contents_of k entries) numbers
    → NumbersEnd bytes from k numbers None
ends_with_message message k rule bytes from entries numbers known shape keeps whole stated =
    (entries, whole, stated, together_small rule (contents_of k entries) numbers shape (contents_fit message k rule entries known keeps.fits) stated)

-- a feature's tags
pub tags_end : (bytes : List ℕ) (span : Span) (feature : FeatureRecord) → IsFeature bytes span feature → NumbersEnd (take span.to bytes) span.from 2 feature.tags None
tags_end bytes span feature is =
    ends_with_message Feature 2 (field_rule 2 Numbers AnyNumber) (take span.to bytes) span.from is.entries feature.tags refl refl is.keeps is.whole is.tags

-- and its geometry
pub geometry_end : (bytes : List ℕ) (span : Span) (feature : FeatureRecord) → IsFeature bytes span feature → NumbersEnd (take span.to bytes) span.from 4 feature.geometry None
geometry_end bytes span feature is =
    ends_with_message Feature 4 (field_rule 4 Numbers AtLeastOnce) (take span.to bytes) span.from is.entries feature.geometry refl refl is.keeps is.whole is.geometry

-- the law: so the numbers of the geometry of a tile's feature have 32 bits
pub geometry_small : (bytes : List ℕ) (tile : TileRecord) (layer feature : ℕ) (layer_record : LayerRecord) (it : FeatureRecord) → IsTile bytes tile → IsFeatureOf tile layer feature layer_record it → AreSmall it.geometry
geometry_small bytes tile layer feature layer_record it whole there =
    let in_tile = each_here (IsLayer bytes) (spans_of 3 whole.entries) tile.layers layer layer_record whole.layers there.in_tile in
    let is_layer : IsLayer bytes in_tile.0 layer_record = in_tile.2 in
    let in_layer = each_here (IsFeature bytes) (spans_of 2 is_layer.entries) layer_record.features feature it is_layer.features there.in_layer in
    let ending = geometry_end bytes in_layer.0 it in_layer.2 in
    ending.3

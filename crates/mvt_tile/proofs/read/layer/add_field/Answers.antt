use Rattle.std.proofs.Common.{ℕ, List, Bor, ◌<◌, ◌^◌, refl, ap, ◌∙◌, map, arith}
use Rattle.std.proofs.lemmas.List.{map_push}
use Rattle.std.proofs.lemmas.Result.{on_ok_weaker}
use Rattle.mvt_wire.specs.Field.{content_of, entry_of}
use Rattle.mvt_wire.specs.declared.schema.Message.TheVariants as messages
use Rattle.mvt_tile.specs.View.{feature_of, value_of, layer_of}
use Rattle.mvt_tile.proofs.Reading.LayerReading.{gives_name, gives_feature, gives_key, gives_value, gives_extent, gives_version}
use Rattle.mvt_tile.proofs.Reading.ReadingRules.{fits_at, own_type, below_limit}
use Rattle.mvt_tile.proofs.read.layer.add_field.Goals as goal

pub text_in-layer-requires-clause-own : goal.text_in-layer-requires-clause-own
text_in-layer-requires-clause-own c = own_type messages.Layer c.args.field 1 2 c.requires.fits c.in-1.is refl (λ t. refl)

pub text_in-layer-requires-clause-utf8 : goal.text_in-layer-requires-clause-utf8
text_in-layer-requires-clause-utf8 c = λ from part stands. (fits_at messages.Layer (entry_of c.args.field) 1 _ c.requires.fits c.in-1.is refl).text from part refl stands

pub payload_span-from-requires-clause-own : goal.payload_span-from-requires-clause-own
payload_span-from-requires-clause-own c = own_type messages.Layer c.args.field 2 2 c.requires.fits c.in-2.is refl (λ t. refl)

pub text_in-requires-clause-own : goal.text_in-requires-clause-own
text_in-requires-clause-own c = own_type messages.Layer c.args.field 3 2 c.requires.fits c.in-3.is refl (λ t. refl)

pub text_in-requires-clause-utf8 : goal.text_in-requires-clause-utf8
text_in-requires-clause-utf8 c = λ from part stands. (fits_at messages.Layer (entry_of c.args.field) 3 _ c.requires.fits c.in-3.is refl).text from part refl stands

pub payload_span-from-requires-in-4-clause-own : goal.payload_span-from-requires-in-4-clause-own
payload_span-from-requires-in-4-clause-own c = own_type messages.Layer c.args.field 4 2 c.requires.fits c.in-4.is refl (λ t. refl)

pub number_in-requires : goal.number_in-requires
number_in-requires c = own_type messages.Layer c.args.field 5 0 c.requires.fits c.in-5.is refl (λ t. refl)

pub overflow_cast-layer : goal.overflow_cast-layer
overflow_cast-layer c =
    let below : c.number_in.result < 2 ^ 32 =
    below_limit _ (content_of c.args.field.body) (2 ^ 32) c.number_in.result (fits_at messages.Layer (entry_of c.args.field) 5 _ c.requires.fits c.in-5.is refl) (λ v. refl) c.number_in.ensures in
    omega arith

pub number_in-requires-in-15 : goal.number_in-requires-in-15
number_in-requires-in-15 c = own_type messages.Layer c.args.field 15 0 c.requires.fits c.in-15.is refl (λ t. refl)

pub overflow_cast-layer-in-15 : goal.overflow_cast-layer-in-15
overflow_cast-layer-in-15 c =
    let below : c.number_in-in-15.result < 2 ^ 32 =
    below_limit _ (content_of c.args.field.body) (2 ^ 32) c.number_in-in-15.result (fits_at messages.Layer (entry_of c.args.field) 15 _ c.requires.fits c.in-15.is refl) (λ v. refl) c.number_in-in-15.ensures in
    omega arith

pub returns-in-1 : goal.returns-in-1
returns-in-1 c = λ entries gives. gives_name c.args.bytes.now entries (entry_of c.args.field) (layer_of c.args.layer.now) gives c.text_in-layer.result.now c.in-1.is c.text_in-layer.ensures

pub returns-in-2 : goal.returns-in-2
returns-in-2 c =
    let read = c.in_ok-feature-in-2 in
    on_ok_weaker c.push_item.result
    (λ pushed entries gives.
    gives_feature c.args.bytes.now entries (entry_of c.args.field) (layer_of c.args.layer.now) gives (map feature_of c.push_item.new.items.items) (feature_of read.feature)
    (record { from = c.payload_span-from.result.0; to = c.payload_span-from.result.1 }) c.in-2.is c.payload_span-from.ensures read.ensures
    (ap (map feature_of) pushed ∙ map_push feature_of c.args.layer.now.features.items read.feature))
    c.push_item.ensures

pub returns-in-3 : goal.returns-in-3
returns-in-3 c =
    let text_of = λ (text : Bor (List ℕ)). text.now in
    on_ok_weaker c.push_item-in-3.result
    (λ pushed entries gives.
    gives_key c.args.bytes.now entries (entry_of c.args.field) (layer_of c.args.layer.now) gives (map text_of c.push_item-in-3.new.items.items) c.text_in.result.now c.in-3.is c.text_in.ensures
    (ap (map text_of) pushed ∙ map_push text_of c.args.layer.now.keys.items c.text_in.result))
    c.push_item-in-3.ensures

pub returns-in-4 : goal.returns-in-4
returns-in-4 c =
    on_ok_weaker c.push_item-in-4.result
    (λ pushed entries gives.
    gives_value c.args.bytes.now entries (entry_of c.args.field) (layer_of c.args.layer.now) gives (map value_of c.push_item-in-4.new.items.items) (value_of c.read_value.result)
    (record { from = c.payload_span-from-in-4.result.0; to = c.payload_span-from-in-4.result.1 }) c.in-4.is c.payload_span-from-in-4.ensures c.read_value.ensures
    (ap (map value_of) pushed ∙ map_push value_of c.args.layer.now.values.items c.read_value.result))
    c.push_item-in-4.ensures

pub returns-in-5 : goal.returns-in-5
returns-in-5 c = λ entries gives. gives_extent c.args.bytes.now entries (entry_of c.args.field) (layer_of c.args.layer.now) gives c.number_in.result c.in-5.is c.number_in.ensures

pub returns-in-15 : goal.returns-in-15
returns-in-15 c = λ entries gives. gives_version c.args.bytes.now entries (entry_of c.args.field) (layer_of c.args.layer.now) gives c.number_in-in-15.result c.in-15.is c.number_in-in-15.ensures

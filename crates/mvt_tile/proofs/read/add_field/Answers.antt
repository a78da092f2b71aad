use Rattle.std.proofs.Common.{◌∙◌, ap, map, refl}
use Rattle.std.proofs.lemmas.List.{map_push}
use Rattle.std.proofs.lemmas.Result.{on_ok_weaker}
use Rattle.mvt_wire.specs.Field.{entry_of}
use Rattle.mvt_rules.specs.Tile.{IsLayer}
use Rattle.mvt_wire.specs.declared.schema.Message.TheVariants as messages
use Rattle.mvt_tile.specs.View.{layer_of}
use Rattle.mvt_tile.proofs.Reading.ReadingRules.{own_type}
use Rattle.mvt_tile.proofs.WireFaults.EmbeddedSpans.{Each-picked}
use Rattle.mvt_tile.proofs.read.add_field.Goals as goal

pub payload_span-from-requires-clause-own : goal.payload_span-from-requires-clause-own
payload_span-from-requires-clause-own c = own_type messages.Tile c.args.field 3 2 c.requires.fits c.if-field-eq-LAYERS.true refl (λ t. refl)

pub returns-then-field-eq-LAYERS : goal.returns-then-field-eq-LAYERS
returns-then-field-eq-LAYERS c =
    let read = c.in_ok-read_layer in
    on_ok_weaker c.push_item.result
    (λ pushed entries gives.
    Each-picked (IsLayer c.args.bytes.now) 3 entries (entry_of c.args.field) (map layer_of c.args.layers.now.items) (map layer_of c.push_item.new.items.items)
    (record { from = c.payload_span-from.result.0; to = c.payload_span-from.result.1 }) (layer_of read.field-0)
    c.if-field-eq-LAYERS.true c.payload_span-from.ensures read.ensures
    (ap (map layer_of) pushed ∙ map_push layer_of c.args.layers.now.items read.field-0) gives)
    c.push_item.ensures

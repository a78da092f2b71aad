use Rattle.mvt_wire.specs.Field.{entry_of}
use Rattle.mvt_confirm.specs.Calls.ByteSpan.{as_span}
use Rattle.mvt_confirm.specs.Calls.Walking.{HoldsLayer}
use Rattle.mvt_confirm.proofs.Wire.FieldWalks.{one_with}
use Rattle.mvt_confirm.proofs.Wire.EmbeddedMessages.{embeds_one}
use Rattle.mvt_confirm.proofs.tile.parts.is_layer_if_any.Goals as goal

pub returns-in-Some : goal.returns-in-Some
returns-in-Some c =
    one_with c.is_layer.ensures
    (embeds_one (HoldsLayer c.args.bytes.now) 3 (entry_of c.args.field.now) (as_span c.in-Some.span) c.in-Some.ensures.number c.in-Some.ensures.payload)

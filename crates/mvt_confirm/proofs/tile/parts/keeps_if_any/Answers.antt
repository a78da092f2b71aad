use Rattle.mvt_wire.specs.Field.{entry_of}
use Rattle.mvt_confirm.specs.Calls.ByteSpan.{as_span}
use Rattle.mvt_confirm.specs.Calls.Walking.{HoldsMessage}
use Rattle.mvt_confirm.proofs.Wire.FieldWalks.{one_with}
use Rattle.mvt_confirm.proofs.Wire.EmbeddedMessages.{embeds_one}
use Rattle.mvt_confirm.proofs.tile.parts.keeps_if_any.Goals as goal

pub returns-in-Some : goal.returns-in-Some
returns-in-Some c =
    one_with c.keeps_schema.ensures
    (embeds_one (HoldsMessage c.args.message c.args.bytes.now) c.args.number (entry_of c.args.field.now) (as_span c.in-Some.span) c.in-Some.ensures.number c.in-Some.ensures.payload)

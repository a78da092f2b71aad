use Rattle.mvt_wire.specs.declared.schema.Message.TheVariants.{Value}
use Rattle.mvt_tile.proofs.OneWalk.Layers.{one_field}
use Rattle.mvt_tile.proofs.walk.value.is_one_field.Goals as goal

pub returns : goal.returns
returns c = λ is ordinal.
    let part = c.args.part in
    one_field Value part.bytes.now part.from part.to part.within (c.new-scan.ensures Value) c.in-Some.ensures c.if-next-part.false c.end_fault.result c.if-is_some.ensures c.end_fault.ensures

use Rattle.std.proofs.Common.{arith}
use Rattle.std.proofs.lemmas.List.{length-take-le}
use Rattle.mvt_wire.proofs.FieldNumbers.NumberFields.{left_at_field}
use Rattle.mvt_wire.proofs.FieldNumbers.NumberWalks.{left_from_field}
use Rattle.mvt_wire.proofs.numbers.Numbers.new.Goals as goal

pub returns : goal.returns
returns c = λ numbers ending. (
  left_at_field _ c.args.from c.args.number numbers ending (omega (arith, c.requires.forward, length-take-le c.args.to c.args.bytes.now c.requires.within)),
  left_from_field _ _ _ numbers ending,
)

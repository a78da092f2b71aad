use Rattle.mvt_wire.proofs.FieldNumbers.PackedNumbers.{AreSmallBefore-more}
use Rattle.mvt_wire.proofs.numbers.packed.first_bad.Goals as goal

pub numbers-preserved : goal.numbers-preserved
numbers-preserved c =
    let small = c.in-Ok.ensures.small in
    record { within = small.encoded.within; before = AreSmallBefore-more c.args.part.now c.numbers.at c.in-Ok.next c.numbers.invariant.before small }

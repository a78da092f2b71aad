use Rattle.std.proofs.Common.{◌+◌, refl, arith}
use Rattle.mvt_wire.proofs.Encoding.Varints.{sum_of_groups-take-below, weight-le, IsVarint-take}
use Rattle.mvt_wire.proofs.varint.varint_size.Goals as goal

pub returns-then-byte-lt128-clause-found : goal.returns-then-byte-lt128-clause-found
returns-then-byte-lt128-clause-found c =
    let below = sum_of_groups-take-below c.args.rest.now (c.loop-i.i + 1) (omega arith) in
    let fits = weight-le (c.loop-i.i + 1) (omega arith) in
    IsVarint-take c.args.rest.now c.loop-i.i _ (omega arith) c.loop-i.invariant.few c.loop-i.invariant.continued c.if-byte-lt128.true refl (omega arith)

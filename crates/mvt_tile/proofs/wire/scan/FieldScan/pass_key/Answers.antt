use Rattle.std.proofs.Common.{arith}
use Rattle.mvt_tile.proofs.wire.scan.FieldScan.pass_key.Goals as goal

pub pass-requires : goal.pass-requires
pass-requires c =
    let given = c.in_ok-field.ensures.field.0 in
    (c.args.bytes.now, c.in_ok-field.next, given.encoded, omega (arith, given.within))

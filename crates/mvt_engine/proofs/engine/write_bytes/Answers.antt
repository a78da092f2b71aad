use Rattle.std.proofs.Common.{◌<◌, ◌^◌, length, arith}
use Rattle.mvt_engine.proofs.EngineLemmas.{Writing-more}
use Rattle.mvt_engine.proofs.engine.write_bytes.Goals as goal

pub bytes-preserved-in-Ok : goal.bytes-preserved-in-Ok
bytes-preserved-in-Ok g c =
    let took = c.in-Ok.ensures in
    let fits : length c.args.line.now < 2 ^ 64 = omega arith in
    Writing-more g.W.Write.contents c.args.writer.now c.bytes.writer c.write.new.self c.args.line.now c.bytes.written c.in-Ok.n c.args.others
    c.bytes.invariant took.bytes took.bound (took.moved (omega (arith, c.in-Ok.n-test.1))) fits

use Rattle.std.proofs.Common.{arith}
use Rattle.mvt_wire.specs.Embedded.{span_in}
use Rattle.mvt_tile.proofs.WireFaults.Known.{faultless_in_front}
use Rattle.mvt_tile.proofs.wire.LayersEmbeddedCheck.check.Goals as goal

pub returns-then-part-self : goal.returns-then-part-self
returns-then-part-self c = λ known. faultless_in_front c.args.part.bytes.now c.args.self.now.passed c.args.ordinal (span_in c.args.part) (omega arith) known

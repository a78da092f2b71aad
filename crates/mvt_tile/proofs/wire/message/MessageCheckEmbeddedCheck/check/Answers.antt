use Rattle.std.proofs.Common.{arith}
use Rattle.mvt_tile.proofs.wire.message.MessageCheckEmbeddedCheck.check.Goals as goal

pub returns-then-part-self : goal.returns-then-part-self
returns-then-part-self c = λ known cause fault. let beyond = known cause fault in omega arith

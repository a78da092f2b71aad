use Rattle.std.proofs.Common.{◌+◌, ◌-◌, length}
use Rattle.mvt_engine.specs.Engine.{interruption_limit}
use Rattle.mvt_engine.proofs.EngineLemmas.{Writing}
use Rattle.mvt_engine.proofs.engine.write_bytes.Given as goal

abbrev pub invariant-bytes : goal.invariant-bytes
invariant-bytes g l = Writing g.W.Write.contents l.fn.writer l.writer l.line l.written l.others

abbrev pub decreases-bytes : goal.decreases-bytes
decreases-bytes g l = (length l.line - l.written) + (interruption_limit - l.writer.interrupted)

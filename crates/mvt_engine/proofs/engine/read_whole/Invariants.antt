use Rattle.std.proofs.Common.{◌+◌, ◌-◌, length}
use Rattle.mvt_engine.specs.declared.engine.TheConstants.{INPUT_LIMIT}
use Rattle.mvt_engine.specs.Engine.{interruption_limit}
use Rattle.mvt_engine.proofs.EngineLemmas.{Reading}
use Rattle.mvt_engine.proofs.engine.read_whole.Given as goal

abbrev pub invariant-chunks : goal.invariant-chunks
invariant-chunks g l = Reading g.R.Read.remaining l.fn.reader l.reader l.chunk l.input.items l.others

abbrev pub decreases-chunks : goal.decreases-chunks
decreases-chunks g l = (INPUT_LIMIT - length l.input.items) + (interruption_limit - l.reader.interrupted)

use Rattle.std.proofs.Common.{◌≡◌, ◌-◌}
use Rattle.std.specs.Io.KnownBytes.{Keeps}
use Rattle.mvt_engine.specs.Engine.{IsClean, interruption_limit}
use Rattle.mvt_engine.specs.Tally.{tally_bytes}
use Rattle.mvt_engine.proofs.engine.flush_all.Given as goal

abbrev pub invariant-tries : goal.invariant-tries
invariant-tries g l = Keeps (tally_bytes g.W.Write.contents l.fn.writer) (tally_bytes g.W.Write.contents l.writer)
    × (l.writer.bytes ≡ l.fn.writer.bytes) × IsClean l.writer l.others

abbrev pub decreases-tries : goal.decreases-tries
decreases-tries g l = interruption_limit - l.writer.interrupted

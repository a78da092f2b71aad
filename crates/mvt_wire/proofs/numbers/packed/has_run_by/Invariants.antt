use Rattle.std.proofs.Common.{◌-◌, length}
use Rattle.mvt_wire.specs.Calls.Packed.{HasNoRun}
use Rattle.mvt_wire.proofs.numbers.packed.has_run_by.Given as goal

abbrev pub invariant-checks : goal.invariant-checks
invariant-checks g l = HasNoRun l.part 0 l.at

abbrev pub decreases-checks : goal.decreases-checks
decreases-checks g l = length l.part - l.at

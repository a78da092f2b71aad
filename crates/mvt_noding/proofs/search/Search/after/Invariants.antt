use Rattle.std.proofs.Common.{◌≤◌}
use Rattle.mvt_noding.proofs.search.Search.after.Given as goal

abbrev pub invariant-loop-other : goal.invariant-loop-other
invariant-loop-other l = l.work ≤ l.fn.work

abbrev pub decreases-loop-other : goal.decreases-loop-other
decreases-loop-other l = l.work

use Rattle.std.proofs.Common.{◌≤◌}
use Rattle.mvt_noding.proofs.search.Search.look_up_one.Given as goal

abbrev pub invariant-loop-group : goal.invariant-loop-group
invariant-loop-group l = l.work ≤ l.fn.work

abbrev pub decreases-loop-group : goal.decreases-loop-group
decreases-loop-group l = l.work

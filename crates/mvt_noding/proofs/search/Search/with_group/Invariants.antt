use Rattle.std.proofs.Common.{◌≤◌}
use Rattle.mvt_noding.proofs.search.Search.with_group.Given as goal

abbrev pub invariant-loop-number : goal.invariant-loop-number
invariant-loop-number l = l.work ≤ l.fn.work

use Rattle.std.proofs.Common.{◌≤◌}
use Rattle.mvt_noding.proofs.search.Search.within.Given as goal

abbrev pub invariant-loop-place : goal.invariant-loop-place
invariant-loop-place l = l.work ≤ l.fn.work

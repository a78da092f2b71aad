use Rattle.std.proofs.Common.{◌≤◌}
use Rattle.mvt_noding.proofs.search.find_meetings.Given as goal

abbrev pub invariant-loop-group : goal.invariant-loop-group
invariant-loop-group l = l.work ≤ l.fn.work

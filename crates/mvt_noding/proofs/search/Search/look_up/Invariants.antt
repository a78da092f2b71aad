use Rattle.std.proofs.Common.{◌≤◌}
use Rattle.mvt_noding.proofs.search.Search.look_up.Given as goal

abbrev pub invariant-loop-piece : goal.invariant-loop-piece
invariant-loop-piece l = l.work ≤ l.fn.work

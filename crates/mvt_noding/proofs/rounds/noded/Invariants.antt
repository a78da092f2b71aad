use Rattle.std.proofs.Common.{◌≤◌}
use Rattle.mvt_noding.proofs.rounds.noded.Given as goal

abbrev pub invariant-loop : goal.invariant-loop
invariant-loop l = l.work ≤ l.fn.work

use Rattle.std.proofs.Common.{◌≤◌}
use Rattle.mvt_overlay.proofs.corners.add_after_rounds.Given as goal

abbrev pub invariant-loop-round : goal.invariant-loop-round
invariant-loop-round l = l.work ≤ l.fn.work

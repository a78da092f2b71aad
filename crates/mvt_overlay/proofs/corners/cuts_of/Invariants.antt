use Rattle.std.proofs.Common.{◌≤◌}
use Rattle.mvt_overlay.proofs.corners.cuts_of.Given as goal

abbrev pub invariant-loop-touch : goal.invariant-loop-touch
invariant-loop-touch l = l.work ≤ l.fn.work

abbrev pub invariant-loop-wedge : goal.invariant-loop-wedge
invariant-loop-wedge l = l.work ≤ l.fn.work

use Rattle.std.proofs.Common.{◌≤◌}
use Rattle.mvt_overlay.proofs.corners.cuts.line_along.Given as goal

abbrev pub invariant-loop-corner : goal.invariant-loop-corner
invariant-loop-corner l = l.work ≤ l.fn.work

use Rattle.std.proofs.Common.{◌≤◌}
use Rattle.mvt_overlay.proofs.boundary.exteriors.add_those_of_holes.Given as goal

abbrev pub invariant-loop-number : goal.invariant-loop-number
invariant-loop-number l = l.work ≤ l.fn.work

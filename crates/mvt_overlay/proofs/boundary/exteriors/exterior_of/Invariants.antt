use Rattle.std.proofs.Common.{◌≤◌}
use Rattle.mvt_overlay.proofs.boundary.exteriors.exterior_of.Given as goal

abbrev pub invariant-loop : goal.invariant-loop
invariant-loop l = l.work ≤ l.fn.work

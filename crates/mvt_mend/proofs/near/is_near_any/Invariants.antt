use Rattle.std.proofs.Common.{◌≤◌}
use Rattle.mvt_mend.proofs.near.is_near_any.Given as goal

-- there is no more work than before
abbrev pub invariant-loop-ring : goal.invariant-loop-ring
invariant-loop-ring l = l.work ≤ l.initial.work

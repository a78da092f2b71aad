use Rattle.std.proofs.Common.{◌≤◌}
use Rattle.mvt_noding.proofs.tree.Tree.next_group.Given as goal

abbrev pub invariant-loop-member : goal.invariant-loop-member
invariant-loop-member l = l.work ≤ l.fn.work

abbrev pub decreases-loop-member : goal.decreases-loop-member
decreases-loop-member l = l.work

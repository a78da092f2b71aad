use Rattle.std.proofs.Common.{rules}
use Rattle.mvt_status.specs.Calls.Tree.{fewest}
use Rattle.mvt_status.proofs.node.open.Goals as goal

pub invariant_of-top : goal.invariant_of-top
unfolding fewest
invariant_of-top c = search rules

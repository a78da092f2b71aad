use Rattle.std.proofs.Common.{rules}
use Rattle.mvt_status.specs.Calls.Tree.{fewest}
use Rattle.mvt_status.proofs.node.alone.Goals as goal

pub invariant_of-new : goal.invariant_of-new
unfolding fewest
invariant_of-new c = search rules

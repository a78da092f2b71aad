use Rattle.std.proofs.Common.{rules}
use Rattle.mvt_status.specs.Calls.Tree.{fewest}
use Rattle.mvt_status.proofs.node.height.Goals as goal

pub returns-in-None-clause-filled : goal.returns-in-None-clause-filled
unfolding fewest
returns-in-None-clause-filled c = search rules

use Rattle.std.proofs.Common.{rules}
use Rattle.mvt_status.proofs.tree_status.TreeStatusStatus.len.Goals as goal

pub returns : goal.returns
returns c = search rules

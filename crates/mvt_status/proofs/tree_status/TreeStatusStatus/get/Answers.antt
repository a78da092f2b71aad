use Rattle.std.proofs.Common.{rules}
use Rattle.mvt_status.proofs.Heights.{visits_by_digits}
use Rattle.mvt_status.proofs.tree_status.TreeStatusStatus.get.Goals as goal

pub returns-clause-counted : goal.returns-clause-counted
returns-clause-counted c = visits_by_digits _ _ _ _ _ c.self.view_is c.edge_at.ensures.counted c.edge_at.ensures.filled

pub returns-clause-value : goal.returns-clause-value
returns-clause-value c = search rules

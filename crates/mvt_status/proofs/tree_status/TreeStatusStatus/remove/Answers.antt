use Rattle.std.proofs.Common.{rules}
use Rattle.mvt_status.proofs.Heights.{visits_by_digits}
use Rattle.mvt_status.proofs.tree_status.TreeStatusStatus.remove.Goals as goal

pub returns-clause-counted : goal.returns-clause-counted
returns-clause-counted c = visits_by_digits _ _ _ _ _ c.self.view_is c.remove_from.ensures.counted c.remove_from.ensures.filled

pub returns-clause-value : goal.returns-clause-value
returns-clause-value c = search rules

pub returns-clause-list : goal.returns-clause-list
returns-clause-list c = search rules

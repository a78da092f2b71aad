use Rattle.std.proofs.Common.{rules}
use Rattle.mvt_status.proofs.Heights.{visits_by_digits}
use Rattle.mvt_status.proofs.tree_status.TreeStatusStatus.replace.Goals as goal

pub returns-clause-counted : goal.returns-clause-counted
returns-clause-counted c = visits_by_digits _ _ _ _ _ c.self.view_is c.replace_in.ensures.counted c.replace_in.ensures.filled

pub returns-clause-list : goal.returns-clause-list
returns-clause-list c = search rules

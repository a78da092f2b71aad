use Rattle.mvt_status.proofs.Heights.{split_by_digits}
use Rattle.mvt_status.proofs.tree_status.TreeStatusStatus.split_point.Goals as goal

pub returns-clause-counted : goal.returns-clause-counted
returns-clause-counted g c = split_by_digits _ _ _ _ _ c.self.view_is c.split_of.ensures.counted c.split_of.ensures.filled

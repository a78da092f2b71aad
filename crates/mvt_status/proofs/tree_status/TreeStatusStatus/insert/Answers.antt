use Rattle.std.proofs.Common.{rules}
use Rattle.mvt_status.proofs.Heights.{more_levels, visits_by_digits}
use Rattle.mvt_status.proofs.tree_status.TreeStatusStatus.insert.Goals as goal

pub returns-clause-counted : goal.returns-clause-counted
returns-clause-counted c = visits_by_digits _ _ _ _ _ c.self.view_is (more_levels _ _ _ _ c.visit_all.ensures.counted c.insert_into-visits.ensures.counted) c.insert_into-visits.ensures.filled

pub returns-in_err-provide-clause-list : goal.returns-in_err-provide-clause-list
returns-in_err-provide-clause-list c = search rules

pub returns-clause-list : goal.returns-clause-list
returns-clause-list c = search rules

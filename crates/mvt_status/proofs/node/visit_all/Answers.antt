use Rattle.std.proofs.Common.{rules}
use Rattle.mvt_status.proofs.node.visit_all.Goals as goal

pub returns-clause-counted : goal.returns-clause-counted
returns-clause-counted c = search rules

use Rattle.std.proofs.Common.{rules}
use Rattle.mvt_status.proofs.node.visit.Goals as goal

pub returns-clause-counted : goal.returns-clause-counted
returns-clause-counted c = search rules

pub returns-clause-visited : goal.returns-clause-visited
returns-clause-visited c = search rules

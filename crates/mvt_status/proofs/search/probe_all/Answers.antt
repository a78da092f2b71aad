use Rattle.std.proofs.Common.{rules}
use Rattle.mvt_status.proofs.search.probe_all.Goals as goal

pub returns-clause-counted : goal.returns-clause-counted
returns-clause-counted c = search rules

pub returns-clause-probed : goal.returns-clause-probed
returns-clause-probed c = search rules

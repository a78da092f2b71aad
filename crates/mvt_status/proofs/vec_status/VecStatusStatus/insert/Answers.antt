use Rattle.std.proofs.Common.{rules}
use Rattle.mvt_status.proofs.vec_status.VecStatusStatus.insert.Goals as goal

pub returns-clause-list : goal.returns-clause-list
returns-clause-list c = search rules

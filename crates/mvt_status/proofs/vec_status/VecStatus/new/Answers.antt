use Rattle.std.proofs.Common.{rules}
use Rattle.mvt_status.proofs.vec_status.VecStatus.new.Goals as goal

pub returns : goal.returns
returns c = search rules

use Rattle.mvt_gate.proofs.Verdicts.{one_least}
use Rattle.mvt_gate.proofs.laws.one_least_fault.Goals as goal

pub returns : goal.returns
returns c = one_least

use Rattle.mvt_gate.proofs.Verdicts.{one_verdict}
use Rattle.mvt_gate.proofs.laws.one_verdict.Goals as goal

pub returns : goal.returns
returns c = one_verdict

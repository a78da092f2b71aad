use Rattle.mvt_gate.proofs.Verdicts.{one_answer}
use Rattle.mvt_gate.proofs.laws.one_check_answer.Goals as goal

pub returns : goal.returns
returns c = one_answer

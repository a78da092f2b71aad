use Rattle.mvt_gate.proofs.AdviceAnswers.{one_answer}
use Rattle.mvt_gate.proofs.laws.one_advise_answer.Goals as goal

pub returns : goal.returns
returns c = one_answer

use Rattle.mvt_engine.proofs.ConfirmAnswers.{one_answer}
use Rattle.mvt_gate.proofs.laws.one_confirm_answer.Goals as goal

pub returns : goal.returns
returns c = one_answer

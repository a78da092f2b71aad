use Rattle.mvt_gate.proofs.DumpAnswers.{one_answer}
use Rattle.mvt_gate.proofs.laws.one_dump_answer.Goals as goal

pub returns : goal.returns
returns c = one_answer

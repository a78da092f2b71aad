use Rattle.mvt_gate.proofs.FieldsAnswers.{some_answer, one_answer}
use Rattle.mvt_gate.proofs.laws.one_fields_answer.Goals as goal

pub returns-clause-some : goal.returns-clause-some
returns-clause-some c = some_answer

pub returns-clause-alone : goal.returns-clause-alone
returns-clause-alone c = one_answer

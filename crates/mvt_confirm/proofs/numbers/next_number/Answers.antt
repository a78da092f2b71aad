use Rattle.mvt_confirm.proofs.Drawing.VertexSteps.{none_taken, number_taken}
use Rattle.mvt_confirm.proofs.numbers.next_number.Goals as goal

pub returns-in_err-next_number-clause-there : goal.returns-in_err-next_number-clause-there
returns-in_err-next_number-clause-there c = none_taken _ _ _ c.from_residual.ensures c.in_err-next_number.ensures.end

pub returns-clause-there : goal.returns-clause-there
returns-clause-there c = number_taken _ _ c.in_ok-next_number.field-0 c.ok.result c.ok.ensures.value c.in_ok-next_number.ensures.number c.in_ok-next_number.ensures.fault

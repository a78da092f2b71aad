use Rattle.mvt_engine.proofs.ConfirmAnswers.{reason_given}
use Rattle.mvt_engine.proofs.confirm.ConfirmFaultClaimTask.answer.Goals as goal

pub returns-in-Err-clause-refused : goal.returns-in-Err-clause-refused
returns-in-Err-clause-refused c = λ other.
    reason_given c.args.claim.now c.in-Err.error c.fault_from_text.result c.in-Err.is c.fault_from_text.ensures.json c.fault_from_text.ensures.shape c.fault_from_text.ensures.range other

use Rattle.std.proofs.Common.{string_bytes, subst}
use Rattle.mvt_gate.proofs.CheckAnswers.{line_of_no, line_of_yes}
use Rattle.mvt_gate.specs.Verdict.{IsVerdictFor}
use Rattle.mvt_gate.proofs.check.verdict_answer.Goals as goal

pub returns-in_ok-ok_line-in-Yes : goal.returns-in_ok-ok_line-in-Yes
returns-in_ok-ok_line-in-Yes c =
    line_of_yes c.args.search c.args.profile c.args.input.now (string_bytes c.in_ok-ok_line-in-Yes.field-0)
    (subst (IsVerdictFor c.args.search c.args.profile c.args.input.now) c.in-Yes.is c.in_ok-judge_for.ensures.verdict) c.in_ok-ok_line-in-Yes.ensures

pub returns-in_ok-fault_line-in-No : goal.returns-in_ok-fault_line-in-No
returns-in_ok-fault_line-in-No c =
    line_of_no c.args.search c.args.profile c.args.input.now (string_bytes c.in_ok-fault_line-in-No.field-0) c.in-No.fault
    (subst (IsVerdictFor c.args.search c.args.profile c.args.input.now) c.in-No.is c.in_ok-judge_for.ensures.verdict) c.in_ok-fault_line-in-No.ensures

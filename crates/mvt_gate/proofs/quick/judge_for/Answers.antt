use Rattle.std.proofs.Common.{sym, subst}
use Rattle.mvt_gate.specs.Verdict.{IsVerdictFor}
use Rattle.mvt_gate.proofs.QuickVerdicts.{yes_where_valid}
use Rattle.mvt_gate.proofs.quick.judge_for.Goals as goal

pub returns-clause-verdict : goal.returns-clause-verdict
returns-clause-verdict c = subst (IsVerdictFor c.args.search c.args.profile c.args.bytes.now) (sym c.verdict_of.ensures) c.in_ok-fault_for.ensures.verdict

pub returns-clause-yes_exactly_where_valid : goal.returns-clause-yes_exactly_where_valid
returns-clause-yes_exactly_where_valid c = yes_where_valid c.args.search c.args.profile c.args.bytes.now c.verdict_of.result (returns-clause-verdict c)

use Rattle.std.proofs.Common.{sym, subst}
use Rattle.mvt_gate.specs.Verdict.{IsQuickVerdictBy}
use Rattle.mvt_gate.specs.declared.quick.Search.TheVariants.{Quick}
use Rattle.mvt_gate.proofs.QuickVerdicts.{fault_of_invalid, yes_where_valid}
use Rattle.mvt_gate.proofs.quick.judge_quickly.Goals as goal

pub returns-clause-verdict : goal.returns-clause-verdict
returns-clause-verdict c = subst (IsQuickVerdictBy c.args.profile c.args.bytes.now) (sym c.verdict_of.ensures) c.in_ok-find_quickly.ensures

pub returns-clause-yes_exactly_where_valid : goal.returns-clause-yes_exactly_where_valid
returns-clause-yes_exactly_where_valid c = yes_where_valid Quick c.args.profile c.args.bytes.now c.verdict_of.result (returns-clause-verdict c)

pub returns-clause-invalid : goal.returns-clause-invalid
returns-clause-invalid c = fault_of_invalid c.args.profile c.args.bytes.now c.verdict_of.result (returns-clause-verdict c)

use Rattle.std.proofs.Common.{sym, subst}
use Rattle.mvt_gate.specs.Verdict.{IsVerdictBy}
use Rattle.mvt_gate.proofs.Verdicts.{fault_of_invalid}
use Rattle.mvt_gate.proofs.verdict.judge_with.Goals as goal

pub returns-clause-verdict : goal.returns-clause-verdict
returns-clause-verdict c = subst (IsVerdictBy c.args.profile c.args.bytes.now) (sym c.verdict_of.ensures) c.in_ok-find_fault.ensures

pub returns-clause-invalid : goal.returns-clause-invalid
returns-clause-invalid c = fault_of_invalid c.args.profile c.args.bytes.now c.verdict_of.result (returns-clause-verdict c)

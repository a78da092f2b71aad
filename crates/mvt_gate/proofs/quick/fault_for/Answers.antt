use Rattle.std.proofs.lemmas.Result.{IfOk-weaker}
use Rattle.mvt_gate.specs.declared.quick.Search.TheVariants.{Least, Quick}
use Rattle.mvt_gate.proofs.QuickVerdicts.{none_where_valid}
use Rattle.mvt_gate.proofs.quick.fault_for.Goals as goal

pub returns-in-Least-clause-none_exactly_where_valid : goal.returns-in-Least-clause-none_exactly_where_valid
returns-in-Least-clause-none_exactly_where_valid c =
    IfOk-weaker c.find_fault.result _ _ (λ _ verdict. none_where_valid Least c.args.profile c.args.bytes.now c.find_fault.new.found verdict) c.find_fault.ensures

pub returns-in-Quick-clause-none_exactly_where_valid : goal.returns-in-Quick-clause-none_exactly_where_valid
returns-in-Quick-clause-none_exactly_where_valid c =
    IfOk-weaker c.find_quickly.result _ _ (λ _ verdict. none_where_valid Quick c.args.profile c.args.bytes.now c.find_quickly.new.found verdict) c.find_quickly.ensures

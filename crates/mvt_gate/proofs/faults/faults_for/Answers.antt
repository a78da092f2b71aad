use Rattle.std.proofs.lemmas.Result.{IfOk-weaker}
use Rattle.mvt_gate.proofs.FaultListLaws.{each_is_true, empty_where_valid, first_of_list, wire_fault_alone}
use Rattle.mvt_gate.proofs.faults.faults_for.Goals as goal

pub returns-clause-empty_exactly_where_valid : goal.returns-clause-empty_exactly_where_valid
returns-clause-empty_exactly_where_valid c =
    IfOk-weaker c.list_faults.result _ _ (λ faults list. empty_where_valid c.args.search c.args.profile c.args.bytes.now faults.items list) c.list_faults.ensures

pub returns-clause-each_is_true : goal.returns-clause-each_is_true
returns-clause-each_is_true c =
    IfOk-weaker c.list_faults.result _ _ (λ faults list. each_is_true c.args.search c.args.profile c.args.bytes.now faults.items list) c.list_faults.ensures

pub returns-clause-first_is_verdict : goal.returns-clause-first_is_verdict
returns-clause-first_is_verdict c =
    IfOk-weaker c.list_faults.result _ _ (λ faults list. first_of_list c.args.search c.args.profile c.args.bytes.now faults.items list) c.list_faults.ensures

pub returns-clause-wire_fault_alone : goal.returns-clause-wire_fault_alone
returns-clause-wire_fault_alone c =
    IfOk-weaker c.list_faults.result _ _ (λ faults list. wire_fault_alone c.args.search c.args.profile c.args.bytes.now faults.items list) c.list_faults.ensures

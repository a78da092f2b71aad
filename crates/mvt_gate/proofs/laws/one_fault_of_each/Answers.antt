use Rattle.mvt_gate.proofs.FaultListLaws.{one_of_each}
use Rattle.mvt_gate.proofs.laws.one_fault_of_each.Goals as goal

pub returns : goal.returns
returns c = one_of_each

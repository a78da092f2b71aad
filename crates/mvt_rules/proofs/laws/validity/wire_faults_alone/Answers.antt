use Rattle.mvt_rules.proofs.Validity.TrueFaults.{wire_faults_alone}
use Rattle.mvt_rules.proofs.laws.validity.wire_faults_alone.Goals as goal

pub returns : goal.returns
returns c = wire_faults_alone

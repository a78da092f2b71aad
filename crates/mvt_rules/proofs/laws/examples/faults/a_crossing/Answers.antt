use Rattle.mvt_rules.proofs.Examples.ExampleFaults.{crossing_shown, crossing_reduced}
use Rattle.mvt_rules.proofs.laws.examples.faults.a_crossing.Goals as goal

pub returns-clause-shown : goal.returns-clause-shown
returns-clause-shown c = crossing_shown

pub returns-clause-reduced : goal.returns-clause-reduced
returns-clause-reduced c = crossing_reduced

use Rattle.mvt_rules.proofs.Examples.ExampleFaults.{touching_shown}
use Rattle.mvt_rules.proofs.laws.examples.faults.edges_of_two_rings.Goals as goal

pub returns-clause-touching : goal.returns-clause-touching
returns-clause-touching c = touching_shown

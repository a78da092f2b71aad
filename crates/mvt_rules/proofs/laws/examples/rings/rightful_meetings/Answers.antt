use Rattle.mvt_rules.proofs.Examples.ExampleNeighbours.{neighbours_round}
use Rattle.mvt_rules.proofs.laws.examples.rings.rightful_meetings.Goals as goal

pub returns-clause-neighbours_round : goal.returns-clause-neighbours_round
returns-clause-neighbours_round c = neighbours_round

use Rattle.mvt_rules.proofs.Examples.ExampleFaults.{vertex_outside, vertex_in_hole, none_of_other_polygon, none_outside}
use Rattle.mvt_rules.proofs.laws.examples.faults.wrong_holes.Goals as goal

pub returns-clause-beside : goal.returns-clause-beside
returns-clause-beside c = vertex_outside

pub returns-clause-in_hole : goal.returns-clause-in_hole
returns-clause-in_hole c = vertex_in_hole

pub returns-clause-other_polygon : goal.returns-clause-other_polygon
returns-clause-other_polygon c = none_of_other_polygon

pub returns-clause-within : goal.returns-clause-within
returns-clause-within c = none_outside

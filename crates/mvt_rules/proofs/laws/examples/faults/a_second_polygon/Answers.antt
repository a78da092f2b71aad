use Rattle.mvt_rules.proofs.Examples.ExampleFaults.{crossing_second, vertex_outside_second, none_of_own_number, vertex_in_hole_second}
use Rattle.mvt_rules.proofs.laws.examples.faults.a_second_polygon.Goals as goal

pub returns-clause-crossing : goal.returns-clause-crossing
returns-clause-crossing c = crossing_second

pub returns-clause-outside : goal.returns-clause-outside
returns-clause-outside c = vertex_outside_second

pub returns-clause-own_number : goal.returns-clause-own_number
returns-clause-own_number c = none_of_own_number

pub returns-clause-in_hole : goal.returns-clause-in_hole
returns-clause-in_hole c = vertex_in_hole_second

use Rattle.mvt_rules.proofs.Examples.ExampleMeetings.{edges_cross, neighbours_overlap, vertex_on_edge, end_on_neighbour, vertices_at_one_position, end_at_another_beginning, rings_touch, one_ring_twice, corners_of_two_rings}
use Rattle.mvt_rules.proofs.laws.examples.rings.wrong_meetings.Goals as goal

pub returns-clause-crossing : goal.returns-clause-crossing
returns-clause-crossing c = edges_cross

pub returns-clause-neighbours_overlap : goal.returns-clause-neighbours_overlap
returns-clause-neighbours_overlap c = neighbours_overlap

pub returns-clause-vertex_on_edge : goal.returns-clause-vertex_on_edge
returns-clause-vertex_on_edge c = vertex_on_edge

pub returns-clause-end_on_neighbour : goal.returns-clause-end_on_neighbour
returns-clause-end_on_neighbour c = end_on_neighbour

pub returns-clause-vertices_at_one_position : goal.returns-clause-vertices_at_one_position
returns-clause-vertices_at_one_position c = vertices_at_one_position

pub returns-clause-rings_touch : goal.returns-clause-rings_touch
returns-clause-rings_touch c = rings_touch

pub returns-clause-end_at_another_beginning : goal.returns-clause-end_at_another_beginning
returns-clause-end_at_another_beginning c = end_at_another_beginning

pub returns-clause-one_ring_twice : goal.returns-clause-one_ring_twice
returns-clause-one_ring_twice c = one_ring_twice

pub returns-clause-corners_of_two_rings : goal.returns-clause-corners_of_two_rings
returns-clause-corners_of_two_rings c = corners_of_two_rings

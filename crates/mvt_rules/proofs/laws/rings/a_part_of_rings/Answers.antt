use Rattle.mvt_rules.proofs.Rings.PartsOfRings.{ring_of_part, count_of_part, number_in_part, edge_of_part, shared_in_part, meeting_in_part, outside_in_part, in_hole_in_part}
use Rattle.mvt_rules.proofs.laws.rings.a_part_of_rings.Goals as goal

pub returns-clause-count : goal.returns-clause-count
returns-clause-count c = count_of_part

pub returns-clause-ring : goal.returns-clause-ring
returns-clause-ring c = ring_of_part

pub returns-clause-edge : goal.returns-clause-edge
returns-clause-edge c = edge_of_part

pub returns-clause-shared : goal.returns-clause-shared
returns-clause-shared c = shared_in_part

pub returns-clause-meeting : goal.returns-clause-meeting
returns-clause-meeting c = meeting_in_part

pub returns-clause-outside : goal.returns-clause-outside
returns-clause-outside c = outside_in_part

pub returns-clause-in_hole : goal.returns-clause-in_hole
returns-clause-in_hole c = in_hole_in_part

pub returns-clause-numbered : goal.returns-clause-numbered
returns-clause-numbered c = number_in_part

use Rattle.mvt_plane.proofs.Examples.ExampleNames.{second_end, fourth_end, crossing_edges, neighbours_none}
use Rattle.mvt_plane.proofs.laws.geometry.examples.named_points.Goals as goal

pub returns-clause-second_end : goal.returns-clause-second_end
returns-clause-second_end c = second_end

pub returns-clause-fourth_end : goal.returns-clause-fourth_end
returns-clause-fourth_end c = fourth_end

pub returns-clause-crossing : goal.returns-clause-crossing
returns-clause-crossing c = crossing_edges

pub returns-clause-none : goal.returns-clause-none
returns-clause-none c = neighbours_none

use Rattle.mvt_plane.proofs.Examples.ExampleTriangle.{between_edges, beside_edges}
use Rattle.mvt_plane.proofs.laws.geometry.examples.positions_inside_a_triangle.Goals as goal

pub returns-clause-between : goal.returns-clause-between
returns-clause-between c = between_edges

pub returns-clause-beside_both : goal.returns-clause-beside_both
returns-clause-beside_both c = beside_edges

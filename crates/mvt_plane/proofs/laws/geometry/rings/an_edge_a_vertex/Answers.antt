use Rattle.mvt_plane.proofs.Rings.RingEdges.{count_of_edges, ends_of_edge}
use Rattle.mvt_plane.proofs.laws.geometry.rings.an_edge_a_vertex.Goals as goal

pub returns-clause-count : goal.returns-clause-count
returns-clause-count c = count_of_edges

pub returns-clause-ends : goal.returns-clause-ends
returns-clause-ends c = ends_of_edge

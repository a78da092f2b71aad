use Rattle.mvt_plane.specs.Geometry.CommonPoint.{IsNamed}
use Rattle.mvt_sweep.specs.Calls.SweepVertices.{edge_at, shared_at}
use Rattle.mvt_sweep.proofs.Vertices.VertexPlans.{named_of_vertices, point_by_name, tested_if_none}
use Rattle.mvt_sweep.proofs.sweep.vertices.SweepVertices.point_in_order.Goals as goal
use Rattle.mvt_sweep.proofs.sweep.vertices.SweepVertices.point_in_order.Goals.{After-common}

-- the answer is what is named for the two edges
named : (c : After-common) → let vertices = c.args.self.now in
    IsNamed (shared_at vertices c.args.first c.args.second) (edge_at vertices c.args.first) (edge_at vertices c.args.second) c.common.result
named c =
    named_of_vertices c.args.self.now c.args.first c.args.second c.shared-shared.result c.edge.result c.edge-2.result c.common.result
    c.shared-shared.ensures c.edge.ensures c.edge-2.ensures c.common.ensures.point

pub returns-clause-none : goal.returns-clause-none
returns-clause-none c = tested_if_none c.args.self.now c.args.first c.args.second c.common.result (named (goal.at.returns-clause-none c).After-common)

pub returns-clause-some : goal.returns-clause-some
returns-clause-some c = point_by_name c.args.self.now c.args.first c.args.second c.common.result (named (goal.at.returns-clause-some c).After-common) c.common.ensures.bounded

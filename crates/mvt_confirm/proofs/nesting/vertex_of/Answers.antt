use Rattle.mvt_plane.specs.Geometry.Ring.{edges}
use Rattle.mvt_confirm.proofs.Shapes.NumberedEdges.{begins_edge, too_few_rings, too_few_vertices}
use Rattle.mvt_confirm.proofs.nesting.vertex_of.Goals as goal

pub returns-in_err-walk-clause-none : goal.returns-in_err-walk-clause-none
returns-in_err-walk-clause-none c = rw c.from_residual.ensures (λ rings position draws is.
    too_few_rings rings c.args.ring is.vertices (c.in_err-walk.ensures.none rings (c.vertices.ensures rings draws)) is.there)

pub returns-in_err-edge_at-clause-none : goal.returns-in_err-edge_at-clause-none
returns-in_err-edge_at-clause-none c = rw c.from_residual-in_err-edge_at.ensures (λ rings position draws is.
    let ring = c.in_ok-walk.ensures.there rings (c.vertices.ensures rings draws) in
    too_few_vertices rings c.args.ring c.args.vertex ring.0 position ring.1 (c.in_err-edge_at.ensures.none (edges ring.0) ring.2) is)

pub returns-clause-there : goal.returns-clause-there
returns-clause-there c = λ rings draws.
    let ring = c.in_ok-walk.ensures.there rings (c.vertices.ensures rings draws) in
    begins_edge rings c.args.ring c.args.vertex ring.0 _ ring.1 (c.in_ok-edge_at.ensures.there (edges ring.0) ring.2)

use Rattle.mvt_plane.specs.Geometry.Ring.{edges}
use Rattle.mvt_confirm.proofs.Shapes.NumberedEdges.{counted_by_edges, too_few_edges, too_few_rings}
use Rattle.mvt_confirm.proofs.meeting.edge_of_number.Goals as goal

pub returns-in_err-walk-clause-none : goal.returns-in_err-walk-clause-none
returns-in_err-walk-clause-none c = rw c.from_residual.ensures (λ rings edge draws is.
    too_few_rings rings c.args.number.ring is.ring (c.in_err-walk.ensures.none rings (c.vertices.ensures rings draws)) is.there)

pub returns-in_err-edge-clause-none : goal.returns-in_err-edge-clause-none
returns-in_err-edge-clause-none c = rw c.from_residual-in_err-edge.ensures (λ rings edge draws is.
    let ring = c.in_ok-walk.ensures.there rings (c.vertices.ensures rings draws) in
    too_few_edges rings c.args.number ring.0 edge ring.1 (c.in_err-edge.ensures.none (edges ring.0) ring.2) is)

pub returns-clause-there : goal.returns-clause-there
returns-clause-there c = λ rings draws.
    let ring = c.in_ok-walk.ensures.there rings (c.vertices.ensures rings draws) in
    record { ring = ring.0; there = ring.1; here = c.in_ok-edge.ensures.there (edges ring.0) ring.2 }

pub returns-clause-count : goal.returns-clause-count
returns-clause-count c = λ rings vertices draws there.
    let ring = c.in_ok-walk.ensures.there rings (c.vertices.ensures rings draws) in
    counted_by_edges rings c.args.number.ring ring.0 vertices c.count-vertex_count.result ring.1 there (c.count-vertex_count.ensures (edges ring.0) ring.2)

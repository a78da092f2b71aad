use Rattle.mvt_sweep.specs.Rings.{rings_of}
use Rattle.mvt_sweep.proofs.Vertices.RingReads.{vertices_there}
use Rattle.mvt_mend.proofs.NearRings.{near_edge}
use Rattle.mvt_mend.proofs.near.is_near_edge.Goals as goal

pub returns : goal.returns
returns c = λ close.
    let old = c.args.old.now in
    let ring = c.args.ring in
    let vertices = c.deref.result.now in
    let there = vertices_there old ring c.index-old-ring.result vertices c.if-ring-old.false c.index-old-ring.is c.deref.ensures.value in
    near_edge (rings_of old) ring c.args.vertex vertices c.edge_at-edge.result c.args.position there c.edge_at-edge.ensures (c.is_close_to_edge.ensures close)

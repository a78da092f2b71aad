use Rattle.std.proofs.Common.{◌≡◌, ◌<◌, length, arith}
use Rattle.mvt_plane.specs.Geometry.Ring.{next_round}
use Rattle.mvt_plane.proofs.Rings.RingEdges.{round_last, round_next}
use Rattle.mvt_sweep.proofs.Vertices.EdgeNumbers.{edge_read}
use Rattle.mvt_mend.proofs.near.edge_at.Goals as goal
use Rattle.mvt_mend.proofs.near.edge_at.Goals.{then-vertex-ring, else-vertex-ring}

pub returns : goal.returns
returns c =
    let ring = c.args.ring.now in
    let number = c.args.vertex in
    let next = c.if-vertex-ring.next in
    let round : next ≡ next_round (length ring) number = elim c.if-vertex-ring.branch [
      | then-vertex-ring w ↦ omega (arith, round_last (length ring) number (omega (arith, w.if-vertex-ring.true)), w.next-is)
      | else-vertex-ring w ↦ omega (arith, round_next (length ring) number (λ same. omega (arith, w.if-vertex-ring.false)), w.next-is)
    ] in
    let within : next < length ring = elim c.if-vertex-ring.branch [
      | then-vertex-ring w ↦ omega (arith, c.requires, w.next-is)
      | else-vertex-ring w ↦ omega (arith, c.requires, w.if-vertex-ring.false, w.next-is)
    ] in
    edge_read ring number next c.index-ring-vertex.result c.index-ring-next.result c.requires round within c.index-ring-vertex.is c.index-ring-next.is

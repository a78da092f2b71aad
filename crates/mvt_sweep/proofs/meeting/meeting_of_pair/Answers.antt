use Rattle.mvt_sweep.specs.Rings.{rings_of}
use Rattle.mvt_sweep.proofs.Vertices.VertexPlans.{meeting_of_rings}
use Rattle.mvt_sweep.proofs.meeting.meeting_of_pair.Goals as goal

pub returns-clause-some : goal.returns-clause-some
returns-clause-some c =
    meeting_of_rings (rings_of c.args.rings.now) c.args.vertices.now c.args.pair.first c.args.pair.second _ c.requires.rings c.requires.vertices c.requires.in_order
    c.in_ok-point.ensures.some c.ring_and_ordinal-first_ring.ensures c.ring_and_ordinal-second_ring.ensures

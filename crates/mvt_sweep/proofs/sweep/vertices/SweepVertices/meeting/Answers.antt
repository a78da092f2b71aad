use Rattle.mvt_sweep.proofs.Vertices.VertexPlans.{tested_both_ways, tested_back_and_forth}
use Rattle.mvt_sweep.proofs.Vertices.PairsEnough.{no_test_either_way}
use Rattle.mvt_sweep.proofs.sweep.vertices.SweepVertices.meeting.Goals as goal

pub returns-then-heights_apart-clause-none : goal.returns-then-heights_apart-clause-none
returns-then-heights_apart-clause-none c =
    no_test_either_way c.args.self.now c.args.one c.args.other (rw (c.edge.ensures, c.edge-2.ensures) at (c.heights_apart.ensures c.if-heights_apart.true))

pub returns-then-one-other-clause-none : goal.returns-then-one-other-clause-none
returns-then-one-other-clause-none c =
    tested_both_ways c.args.self.now c.args.one c.args.other c.meeting_in_order.result c.requires.one c.requires.other c.meeting_in_order.ensures.none

pub returns-else-one-other-clause-none : goal.returns-else-one-other-clause-none
returns-else-one-other-clause-none c =
    tested_back_and_forth c.args.self.now c.args.one c.args.other c.meeting_in_order-else-one-other.result c.requires.one c.requires.other c.meeting_in_order-else-one-other.ensures.none

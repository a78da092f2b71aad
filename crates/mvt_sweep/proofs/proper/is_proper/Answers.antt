use Rattle.std.proofs.Common.{◌≡◌, refl, below_more, arith}
use Rattle.std.proofs.lemmas.Option.{slice_get_within}
use Rattle.mvt_sweep.proofs.Vertices.RingReads.{fails}
use Rattle.mvt_sweep.proofs.Vertices.ProperRings.{apart_at, not_proper_at, never}
use Rattle.mvt_sweep.proofs.proper.is_proper.Goals as goal

pub loop-vertex-preserved : goal.loop-vertex-preserved
loop-vertex-preserved c =
    let edge = c.edge_at-edge.result in
    below_more _ _ c.loop-vertex.invariant (apart_at c.args.ring.now c.loop-vertex.vertex edge c.edge_at-edge.ensures (fails (edge.a ≡ edge.b) c.is_same_position.result c.is_same_position.ensures c.if-is_same_position.false))

pub returns-then-is_same_position : goal.returns-then-is_same_position
returns-then-is_same_position c = (
  never,
  λ proper. absurd (not_proper_at c.args.ring.now c.loop-vertex.vertex c.edge_at-edge.result c.edge_at-edge.ensures (c.is_same_position.ensures.0 c.if-is_same_position.true) proper),
)

pub returns : goal.returns
returns c = (
  λ _. record {
    several = c.if-ring-lt3.false;
    apart = λ vertex position next here following. c.loop-vertex.invariant vertex (omega (arith, c.loop-vertex-test.false, slice_get_within c.args.ring.now vertex position here)) position next here following;
  },
  λ _. refl,
)

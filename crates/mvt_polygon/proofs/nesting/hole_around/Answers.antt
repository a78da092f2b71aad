use Rattle.std.proofs.Common.{below_more, arith}
use Rattle.mvt_plane.specs.Geometry.Inside.{IsInside}
use Rattle.mvt_sweep.specs.Rings.{rings_of}
use Rattle.mvt_polygon.proofs.NestFaults.{not_around, no_ring_around}
use Rattle.mvt_sweep.proofs.Vertices.RingReads.{vertices_there, count_of_rings, fails}
use Rattle.mvt_polygon.proofs.nesting.hole_around.Goals as goal
use Rattle.mvt_polygon.proofs.nesting.hole_around.Goals.{else-other-ring-via-then-other-ring+else-inside, else-other-ring-via-else-other-ring}

pub loop-other-preserved : goal.loop-other-preserved
loop-other-preserved c =
    elim c.else-other-ring.branch [
      | else-other-ring-via-then-other-ring+else-inside w ↦
          let vertices = w.deref.result.now in
          let there = vertices_there c.args.rings.now c.loop-other.other w.index-rings-other.result vertices c.loop-other-test.true w.index-rings-other.is w.deref.ensures.value in
          below_more _ _ c.loop-other.invariant (not_around (rings_of c.args.rings.now) c.args.ring c.loop-other.other c.args.position vertices there (fails (IsInside c.args.position vertices) w.inside.result w.inside.ensures w.if-inside.false))
      | else-other-ring-via-else-other-ring w ↦ below_more _ _ c.loop-other.invariant (λ around. around.different w.if-other-ring.false)
    ]

pub returns-clause-none : goal.returns-clause-none
returns-clause-none c =
    no_ring_around (rings_of c.args.rings.now) c.args.ring c.args.position
    (λ other within. c.loop-other.invariant other (omega (arith, count_of_rings c.args.rings.now, c.loop-other-test.false)))

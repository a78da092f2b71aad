use Rattle.std.proofs.Common.{◌+◌, below_more, arith}
use Rattle.mvt_plane.specs.Geometry.Inside.{IsInside}
use Rattle.mvt_sweep.specs.Rings.{rings_of}
use Rattle.mvt_sweep.proofs.Vertices.VertexNumbers.{count_all}
use Rattle.mvt_polygon.proofs.NestFaults.{not_around, no_ring_around}
use Rattle.mvt_polygon.proofs.NestOnce.{first_around, one_more_ring, probes_within, ring_passed}
use Rattle.mvt_sweep.proofs.Vertices.RingReads.{vertices_there, count_of_rings, fails}
use Rattle.mvt_polygon.proofs.nesting.once.hole_around.Goals as goal
use Rattle.mvt_polygon.proofs.nesting.once.hole_around.Goals.{else-other-ring-via-then-other-ring+else-inside_counted, else-other-ring-via-else-other-ring}

pub returns-then-inside_counted-clause-first : goal.returns-then-inside_counted-clause-first
returns-then-inside_counted-clause-first c =
    let vertices = c.deref.result.now in
    let there = vertices_there c.args.rings.now c.loop-other.other c.index-rings-other.result vertices c.loop-other-test.true c.index-rings-other.is c.deref.ensures.value in
    first_around (rings_of c.args.rings.now) c.args.ring c.args.position c.loop-other.other vertices c.loop-other.auto.other c.if-other-ring.true there
    (c.inside_counted.ensures.inside.0 c.if-inside_counted.true) c.loop-other.invariant.none

pub returns-then-inside_counted-clause-counted : goal.returns-then-inside_counted-clause-counted
returns-then-inside_counted-clause-counted c =
    let rings = rings_of c.args.rings.now in
    let vertices = c.deref.result.now in
    let there = vertices_there c.args.rings.now c.loop-other.other c.index-rings-other.result vertices c.loop-other-test.true c.index-rings-other.is c.deref.ensures.value in
    let work = one_more_ring rings c.loop-other.other vertices there c.loop-other.auto.other c.loop-other.invariant.counted c.inside_counted.ensures.counted in
    probes_within (omega (arith, count_all rings (c.loop-other.other + 1))) work

pub loop-other-preserved : goal.loop-other-preserved
loop-other-preserved c =
    let rings = rings_of c.args.rings.now in
    elim c.else-other-ring.branch [
      | else-other-ring-via-then-other-ring+else-inside_counted w ↦
          let vertices = w.deref.result.now in
          let there = vertices_there c.args.rings.now c.loop-other.other w.index-rings-other.result vertices c.loop-other-test.true w.index-rings-other.is w.deref.ensures.value in
          record {
            none = below_more _ _ c.loop-other.invariant.none (not_around rings c.args.ring c.loop-other.other c.args.position vertices there
                (fails (IsInside c.args.position vertices) w.inside_counted.result w.inside_counted.ensures.inside w.if-inside_counted.false));
            counted = one_more_ring rings c.loop-other.other vertices there c.loop-other.auto.other c.loop-other.invariant.counted
                (rw w.count-is w.inside_counted.ensures.counted);
          }
      | else-other-ring-via-else-other-ring w ↦ record {
        none = below_more _ _ c.loop-other.invariant.none (λ around. around.different w.if-other-ring.false);
        counted = ring_passed rings c.loop-other.other (rw w.count-is c.loop-other.invariant.counted);
      }
    ]

pub returns-clause-none : goal.returns-clause-none
returns-clause-none c =
    no_ring_around (rings_of c.args.rings.now) c.args.ring c.args.position
    (λ other within. c.loop-other.invariant.none other (omega (arith, count_of_rings c.args.rings.now, c.loop-other-test.false)))

use Rattle.std.proofs.Common.{length, ◌≤◌, arith}
use Rattle.mvt_sweep.specs.Rings.{rings_of}
use Rattle.mvt_sweep.proofs.Vertices.VertexNumbers.{count_another, count_whole}
use Rattle.mvt_sweep.proofs.Vertices.RingReads.{ring_there, count_of_rings}
use Rattle.mvt_sweep.proofs.meeting.ring_and_ordinal.Goals as goal

pub loop-ring-preserved : goal.loop-ring-preserved
loop-ring-preserved c =
    let rings = c.args.rings.now in
    let ring = c.index-rings-ring.result in
    let there = ring_there rings c.loop-ring.ring ring c.loop-ring-test.true c.index-rings-ring.is in
    omega (arith, c.loop-ring.invariant, c.if-left-vertices.false, c.len-vertices.ensures, ring.ok.0, count_another (rings_of rings) c.loop-ring.ring ring.items there)

pub returns-then-left-vertices : goal.returns-then-left-vertices
returns-then-left-vertices c =
    let rings = c.args.rings.now in
    let ring = c.index-rings-ring.result in
    record {
      ring = ring.items;
      there = ring_there rings c.loop-ring.ring ring c.loop-ring-test.true c.index-rings-ring.is;
      within = omega (arith, c.if-left-vertices.true, c.len-vertices.ensures, ring.ok.0);
      numbered = c.loop-ring.invariant;
    }

pub unreachable-requires : goal.unreachable-requires
unreachable-requires c =
    let rings = c.args.rings.now in
    let whole : length (rings_of rings) ≤ c.loop-ring.ring = omega (arith, count_of_rings rings, c.loop-ring-test.false) in
    absurd (omega (arith, c.requires, c.loop-ring.invariant, count_whole (rings_of rings) c.loop-ring.ring whole))

use Rattle.std.proofs.Common.{length, ◌≤◌, arith}
use Rattle.mvt_sweep.specs.Rings.{rings_of}
use Rattle.mvt_sweep.proofs.Vertices.VertexNumbers.{count_whole, count_another}
use Rattle.mvt_sweep.proofs.Vertices.RingReads.{ring_there, count_of_rings}
use Rattle.mvt_sweep.proofs.sweep.listing.count_of.Goals as goal

pub loop-ring-preserved : goal.loop-ring-preserved
loop-ring-preserved c =
    let rings = c.args.rings.now in
    let ring = c.index-rings-ring.result in
    let there = ring_there rings c.loop-ring.ring ring c.loop-ring-test.true c.index-rings-ring.is in
    let step = count_another (rings_of rings) c.loop-ring.ring ring.items there in
    omega (arith, c.loop-ring.invariant, c.in_ok-count.ensures.1, c.len.ensures, ring.ok.0)

pub returns : goal.returns
returns c =
    let rings = c.args.rings.now in
    let whole : length (rings_of rings) ≤ c.loop-ring.ring = omega (arith, count_of_rings rings, c.loop-ring-test.false) in
    omega (arith, c.loop-ring.invariant, count_whole (rings_of rings) c.loop-ring.ring whole)

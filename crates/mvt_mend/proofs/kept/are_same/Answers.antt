use Rattle.std.proofs.Common.{◌<◌, length, arith}
use Rattle.mvt_sweep.specs.Rings.{rings_of}
use Rattle.mvt_sweep.proofs.Vertices.RingReads.{count_of_rings, vertices_there}
use Rattle.mvt_mend.proofs.KeptPolygons.{same_more, same_whole}
use Rattle.mvt_mend.proofs.kept.are_same.Goals as goal

pub loop-ring-preserved : goal.loop-ring-preserved
loop-ring-preserved c =
    let one = c.args.one.now in
    let other = c.args.other.now in
    let ring = c.loop-ring.ring in
    let its = c.deref.result.now in
    let others = c.deref-in-loop-ring.result.now in
    let within : ring < length other = omega (arith, c.if-one-other.false, c.loop-ring-test.true) in
    same_more (rings_of one) (rings_of other) ring its others c.loop-ring.invariant (omega (arith, count_of_rings one, c.loop-ring-test.true)) (omega (arith, count_of_rings other, within))
    (vertices_there one ring c.index-one-ring.result its c.loop-ring-test.true c.index-one-ring.is c.deref.ensures.value)
    (vertices_there other ring c.index-other-ring.result others within c.index-other-ring.is c.deref-in-loop-ring.ensures.value)
    (c.are_same_positions.ensures c.if-not-are_same_positions.false)

pub returns : goal.returns
returns c = λ _.
    let one = c.args.one.now in
    let other = c.args.other.now in
    same_whole (rings_of one) (rings_of other) c.loop-ring.ring c.loop-ring.invariant (omega (arith, count_of_rings one, c.loop-ring-test.false)) (omega (arith, count_of_rings other, c.if-one-other.false, c.loop-ring-test.false))

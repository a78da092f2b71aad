use Rattle.std.proofs.Common.{below_more, arith}
use Rattle.std.proofs.lemmas.Option.{slice_get_within}
use Rattle.mvt_sweep.specs.Rings.{rings_of}
use Rattle.mvt_sweep.proofs.Vertices.RingReads.{count_of_rings, vertices_there}
use Rattle.mvt_mend.proofs.NearRings.{near_vertex}
use Rattle.mvt_mend.proofs.near.are_near.Goals as goal

pub loop-ring-preserved : goal.loop-ring-preserved
loop-ring-preserved c =
    let new = c.args.new.now in
    let ring = c.loop-ring.ring in
    let vertices = c.deref.result.now in
    let there = vertices_there new ring c.index-new-ring.result vertices c.loop-ring-test.true c.index-new-ring.is c.deref.ensures.value in
    record {
      near = below_more _ _ c.loop-ring.invariant.near (near_vertex (rings_of c.args.old.now) (rings_of new) ring vertices there (c.is_ring_near.ensures.near c.if-not-is_ring_near.false));
      no_more = omega (arith, c.is_ring_near.ensures.no_more, c.loop-ring.invariant.no_more);
    }

pub returns-clause-near : goal.returns-clause-near
returns-clause-near c = λ _ ring vertex position is. c.loop-ring.invariant.near ring (omega (arith, count_of_rings c.args.new.now, c.loop-ring-test.false, slice_get_within (rings_of c.args.new.now) ring is.vertices is.there)) vertex position is

use Rattle.std.proofs.Common.{length, ◌≤◌, below_more, refl, arith}
use Rattle.std.proofs.lemmas.Option.{slice_get_read}
use Rattle.mvt_sweep.specs.Rings.{rings_of}
use Rattle.mvt_polygon.proofs.NestFaults.{first_hole, no_hole}
use Rattle.mvt_polygon.proofs.NestOnce.{no_first_vertex, first_of_first_vertex, one_more_hole}
use Rattle.mvt_sweep.proofs.Vertices.RingReads.{ring_there, count_of_rings}
use Rattle.mvt_polygon.proofs.nesting.once.check_nesting_once.Goals as goal

pub index-position-requires : goal.index-position-requires
index-position-requires c =
    let ring = c.index-rings-ring.result in
    let there = ring_there c.args.rings.now c.loop-ring.ring ring c.loop-ring-test.true c.index-rings-ring.is in
    let several : 3 ≤ length ring.items = c.requires.proper.several c.loop-ring.ring ring.items there in
    omega (arith, ring.ok.0)

pub fault_of_first_vertex-requires-clause-here : goal.fault_of_first_vertex-requires-clause-here
fault_of_first_vertex-requires-clause-here c =
    let ring = c.index-rings-ring.result in
    let there = ring_there c.args.rings.now c.loop-ring.ring ring c.loop-ring-test.true c.index-rings-ring.is in
    let several : 3 ≤ length ring.items = c.requires.proper.several c.loop-ring.ring ring.items there in
    record { vertices = ring.items; there = there; here = slice_get_read ring.items (length ring.items) 0 c.index-position.result.now refl (omega arith) c.index-position.ensures }

pub returns-in-Some-clause-least : goal.returns-in-Some-clause-least
returns-in-Some-clause-least c =
    let rings = rings_of c.args.rings.now in
    first_hole rings c.loop-ring.ring c.in-Some.fault c.loop-ring.invariant.none (first_of_first_vertex rings c.loop-ring.ring c.in-Some.fault c.in-Some.ensures.least)

pub loop-ring-preserved : goal.loop-ring-preserved
loop-ring-preserved c =
    let rings = rings_of c.args.rings.now in
    record {
      none = below_more _ _ c.loop-ring.invariant.none (no_first_vertex rings c.loop-ring.ring c.requires.none_meet c.in_default.ensures.none);
      counted = one_more_hole rings c.loop-ring.ring c.loop-ring.auto.ring c.loop-ring.invariant.counted c.fault_of_first_vertex.ensures.counted;
    }

pub returns-clause-none : goal.returns-clause-none
returns-clause-none c =
    no_hole (rings_of c.args.rings.now) (λ ring within. c.loop-ring.invariant.none ring (omega (arith, count_of_rings c.args.rings.now, c.loop-ring-test.false)))

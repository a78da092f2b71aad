use Rattle.std.proofs.Common.{◌≡◌, length, slice_get, ◌≤◌, Some, below_more, refl, arith}
use Rattle.std.proofs.lemmas.Option.{slice_get_read}
use Rattle.mvt_sweep.specs.Rings.{rings_of}
use Rattle.mvt_polygon.proofs.NestFaults.{no_hole}
use Rattle.mvt_polygon.proofs.NotedHoles.{IsRight, hole_right, hole_wrong, none_answered, first_answered}
use Rattle.mvt_sweep.proofs.Vertices.RingReads.{ring_there, count_of_rings, fails}
use Rattle.mvt_polygon.proofs.nesting.noted.fault_of_holes.Goals as goal

pub is_right-requires : goal.is_right-requires
is_right-requires c = omega (arith, c.requires.noted.noted.count, count_of_rings c.args.rings.now, c.loop-hole-test.true)

pub loop-hole-preserved : goal.loop-hole-preserved
loop-hole-preserved c =
    let noted = c.requires.noted in
    record {
      none = below_more _ _ c.loop-hole.invariant.none (hole_right (rings_of c.args.rings.now) c.args.notes.now.around.items c.args.notes.now.come_to.items c.loop-hole.hole noted.clear noted.noted
          (omega (arith, c.loop-hole.auto.hole)) (omega (arith, count_of_rings c.args.rings.now, c.loop-hole-test.true)) (c.is_right.ensures.0 c.if-not-is_right.false));
      untouched = c.loop-hole.invariant.untouched;
    }

pub index-requires : goal.index-requires
index-requires c =
    let ring = c.index-rings-hole.result in
    let there = ring_there c.args.rings.now c.loop-hole.hole ring c.loop-hole-test.true c.index-rings-hole.is in
    let several : 3 ≤ length ring.items = c.requires.proper.several c.loop-hole.hole ring.items there in
    omega (arith, ring.ok.0)

pub fault_of_first_vertex-requires-clause-here : goal.fault_of_first_vertex-requires-clause-here
fault_of_first_vertex-requires-clause-here c =
    let ring = c.index-rings-hole.result in
    let there = ring_there c.args.rings.now c.loop-hole.hole ring c.loop-hole-test.true c.index-rings-hole.is in
    let several : 3 ≤ length ring.items = c.requires.proper.several c.loop-hole.hole ring.items there in
    record { vertices = ring.items; there = there; here = slice_get_read ring.items (length ring.items) 0 c.index.result.now refl (omega arith) c.index.ensures }

pub returns-then-not-is_right-clause-none : goal.returns-then-not-is_right-clause-none
returns-then-not-is_right-clause-none c =
    let rings = rings_of c.args.rings.now in
    let notes = c.args.notes.now in
    let ring = c.index-rings-hole.result in
    let there = ring_there c.args.rings.now c.loop-hole.hole ring c.loop-hole-test.true c.index-rings-hole.is in
    let several : 3 ≤ length ring.items = c.requires.proper.several c.loop-hole.hole ring.items there in
    let here : slice_get ring.items 0 ≡ Some c.index.result.now = slice_get_read ring.items (length ring.items) 0 c.index.result.now refl (omega arith) c.index.ensures in
    none_answered rings c.loop-hole.hole c.fault_of_first_vertex.result
    (hole_wrong rings notes.around.items notes.come_to.items c.loop-hole.hole ring.items c.index.result.now c.requires.noted.clear c.requires.noted.noted (omega (arith, c.loop-hole.auto.hole)) there here
    (fails (IsRight notes.around.items c.loop-hole.hole) c.is_right.result c.is_right.ensures c.if-not-is_right.true)) c.fault_of_first_vertex.ensures.none

pub returns-then-not-is_right-clause-least : goal.returns-then-not-is_right-clause-least
returns-then-not-is_right-clause-least c =
    first_answered (rings_of c.args.rings.now) c.loop-hole.hole c.fault_of_first_vertex.result c.loop-hole.invariant.none c.fault_of_first_vertex.ensures.least

pub returns-clause-none : goal.returns-clause-none
returns-clause-none c =
    no_hole (rings_of c.args.rings.now) (λ ring within. c.loop-hole.invariant.none ring (omega (arith, count_of_rings c.args.rings.now, c.loop-hole-test.false)))

use Rattle.std.proofs.Common.{arith}
use Rattle.mvt_plane.specs.Geometry.Inside.{IsInside}
use Rattle.mvt_sweep.specs.Rings.{rings_of}
use Rattle.mvt_polygon.proofs.NestFaults.{not_inside, no_hole_around, in_hole_around}
use Rattle.mvt_sweep.proofs.Vertices.VertexNumbers.{count_step}
use Rattle.mvt_sweep.proofs.Vertices.RingReads.{vertices_there, count_of_rings, fails}
use Rattle.mvt_polygon.proofs.nesting.once.fault_of_first_vertex.Goals as goal

pub returns-then-not-inside_counted-clause-least : goal.returns-then-not-inside_counted-clause-least
returns-then-not-inside_counted-clause-least c =
    let exterior = c.deref.result.now in
    let there = vertices_there c.args.rings.now 0 c.index-rings-0.result exterior (omega (arith, c.requires.there)) c.index-rings-0.is c.deref.ensures.value in
    not_inside (rings_of c.args.rings.now) c.args.ring 0 c.args.position exterior c.requires.hole (omega (arith, count_of_rings c.args.rings.now, c.requires.there))
    c.requires.here there (fails (IsInside c.args.position exterior) c.inside_counted.result c.inside_counted.ensures.inside c.if-not-inside_counted.true)

pub returns-in_err-other-clause-none : goal.returns-in_err-other-clause-none
returns-in_err-other-clause-none c =
    let exterior = c.deref.result.now in
    let there = vertices_there c.args.rings.now 0 c.index-rings-0.result exterior (omega (arith, c.requires.there)) c.index-rings-0.is c.deref.ensures.value in
    rw c.from_residual.ensures
    (no_hole_around (rings_of c.args.rings.now) c.args.ring 0 c.args.position exterior c.requires.here there
    (c.inside_counted.ensures.inside.0 c.if-not-inside_counted.false) c.in_err-other.ensures.none)

pub returns-clause-least : goal.returns-clause-least
returns-clause-least c =
    let exterior = c.deref.result.now in
    let there = vertices_there c.args.rings.now 0 c.index-rings-0.result exterior (omega (arith, c.requires.there)) c.index-rings-0.is c.deref.ensures.value in
    in_hole_around (rings_of c.args.rings.now) c.args.ring 0 c.in_ok-other.other c.args.position exterior c.requires.hole
    (omega (arith, count_of_rings c.args.rings.now, c.requires.there)) c.requires.here there
    (c.inside_counted.ensures.inside.0 c.if-not-inside_counted.false) c.in_ok-other.ensures.first

-- the edges of the exterior are counted

pub returns-then-not-inside_counted-clause-probed : goal.returns-then-not-inside_counted-clause-probed
returns-then-not-inside_counted-clause-probed c =
    let exterior = c.deref.result.now in
    let there = vertices_there c.args.rings.now 0 c.index-rings-0.result exterior (omega (arith, c.requires.there)) c.index-rings-0.is c.deref.ensures.value in
    omega (arith, count_step (rings_of c.args.rings.now) 0 exterior there, c.inside_counted.ensures.probed)

pub returns-in_err-other-clause-probed : goal.returns-in_err-other-clause-probed
returns-in_err-other-clause-probed c =
    let exterior = c.deref.result.now in
    let there = vertices_there c.args.rings.now 0 c.index-rings-0.result exterior (omega (arith, c.requires.there)) c.index-rings-0.is c.deref.ensures.value in
    omega (arith, count_step (rings_of c.args.rings.now) 0 exterior there, c.inside_counted.ensures.probed, c.hole_around.ensures.counted.no_fewer_probes)

pub returns-clause-probed : goal.returns-clause-probed
returns-clause-probed c =
    let exterior = c.deref.result.now in
    let there = vertices_there c.args.rings.now 0 c.index-rings-0.result exterior (omega (arith, c.requires.there)) c.index-rings-0.is c.deref.ensures.value in
    omega (arith, count_step (rings_of c.args.rings.now) 0 exterior there, c.inside_counted.ensures.probed, c.hole_around.ensures.counted.no_fewer_probes)

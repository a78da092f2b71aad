use Rattle.std.proofs.Common.{arith}
use Rattle.mvt_plane.specs.Geometry.Inside.{IsInside}
use Rattle.mvt_sweep.specs.Rings.{rings_of}
use Rattle.mvt_polygon.proofs.NestFaults.{not_inside, no_hole_around, in_hole_around}
use Rattle.mvt_sweep.proofs.Vertices.RingReads.{vertices_there, count_of_rings, fails}
use Rattle.mvt_polygon.proofs.nesting.fault_of_vertex.Goals as goal

pub returns-then-not-inside-clause-least : goal.returns-then-not-inside-clause-least
returns-then-not-inside-clause-least c =
    let exterior = c.deref.result.now in
    let there = vertices_there c.args.rings.now 0 c.index-rings-0.result exterior (omega (arith, c.requires.there)) c.index-rings-0.is c.deref.ensures.value in
    not_inside (rings_of c.args.rings.now) c.args.ring c.args.vertex c.args.position exterior c.requires.hole (omega (arith, count_of_rings c.args.rings.now, c.requires.there)) c.requires.here there
    (fails (IsInside c.args.position exterior) c.inside.result c.inside.ensures c.if-not-inside.true)

pub returns-in_err-other-clause-none : goal.returns-in_err-other-clause-none
returns-in_err-other-clause-none c =
    let exterior = c.deref.result.now in
    let there = vertices_there c.args.rings.now 0 c.index-rings-0.result exterior (omega (arith, c.requires.there)) c.index-rings-0.is c.deref.ensures.value in
    rw c.from_residual.ensures
    (no_hole_around (rings_of c.args.rings.now) c.args.ring c.args.vertex c.args.position exterior c.requires.here there (c.inside.ensures.0 c.if-not-inside.false) c.in_err-other.ensures.none)

pub returns-clause-least : goal.returns-clause-least
returns-clause-least c =
    let exterior = c.deref.result.now in
    let there = vertices_there c.args.rings.now 0 c.index-rings-0.result exterior (omega (arith, c.requires.there)) c.index-rings-0.is c.deref.ensures.value in
    in_hole_around (rings_of c.args.rings.now) c.args.ring c.args.vertex c.in_ok-other.other c.args.position exterior c.requires.hole (omega (arith, count_of_rings c.args.rings.now, c.requires.there)) c.requires.here there (c.inside.ensures.0 c.if-not-inside.false) c.in_ok-other.ensures.first

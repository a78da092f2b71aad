use Rattle.std.proofs.Common.{below_more, refl, arith}
use Rattle.mvt_plane.specs.Geometry.Inside.{IsInside}
use Rattle.mvt_sweep.specs.Rings.{rings_of}
use Rattle.mvt_polygon.proofs.ApartFaults.{in_polygon, not_in_exterior, not_in_hole, not_in_ring}
use Rattle.mvt_sweep.proofs.Vertices.RingReads.{vertices_there, fails}
use Rattle.mvt_rules.specs.Polygon.{PolygonRings}
use Rattle.mvt_polygon.proofs.apart.is_in_polygon.Goals as goal

pub returns-then-not-inside : goal.returns-then-not-inside
returns-then-not-inside c =
    let vertices = c.deref.result.now in
    let it : PolygonRings = record { exterior = c.args.exterior; after = c.args.after } in
    let there = vertices_there c.args.rings.now c.args.exterior c.index-rings-exterior.result vertices (omega (arith, c.requires.further, c.requires.within)) c.index-rings-exterior.is c.deref.ensures.value in
    let not = not_in_exterior (rings_of c.args.rings.now) it c.args.position vertices there (fails (IsInside c.args.position vertices) c.inside.result c.inside.ensures c.if-not-inside.true) in
    (λ is. absurd (cc), λ in_it. absurd (not in_it))

pub returns-then-inside : goal.returns-then-inside
returns-then-inside c =
    let hole = c.loop-hole.hole in
    let vertices = c.deref-in-loop-hole.result.now in
    let it : PolygonRings = record { exterior = c.args.exterior; after = c.args.after } in
    let there = vertices_there c.args.rings.now hole c.index-rings-hole.result vertices (omega (arith, c.loop-hole-test.true, c.requires.within)) c.index-rings-hole.is c.deref-in-loop-hole.ensures.value in
    let not = not_in_hole (rings_of c.args.rings.now) it c.args.position hole vertices (omega (arith, c.loop-hole.auto.hole)) (omega (arith, c.loop-hole.auto.hole, c.loop-hole-test.true)) there (c.inside-in-loop-hole.ensures.0 c.if-inside.true) in
    (λ is. absurd (cc), λ in_it. absurd (not in_it))

pub loop-hole-preserved : goal.loop-hole-preserved
loop-hole-preserved c =
    let hole = c.loop-hole.hole in
    let vertices = c.deref-in-loop-hole.result.now in
    let there = vertices_there c.args.rings.now hole c.index-rings-hole.result vertices (omega (arith, c.loop-hole-test.true, c.requires.within)) c.index-rings-hole.is c.deref-in-loop-hole.ensures.value in
    below_more _ _ c.loop-hole.invariant
    (not_in_ring (rings_of c.args.rings.now) c.args.exterior hole c.args.position vertices there (fails (IsInside c.args.position vertices) c.inside-in-loop-hole.result c.inside-in-loop-hole.ensures c.if-inside.false))

pub returns : goal.returns
returns c =
    let vertices = c.deref.result.now in
    let it : PolygonRings = record { exterior = c.args.exterior; after = c.args.after } in
    let there = vertices_there c.args.rings.now c.args.exterior c.index-rings-exterior.result vertices (omega (arith, c.requires.further, c.requires.within)) c.index-rings-exterior.is c.deref.ensures.value in
    let is = in_polygon (rings_of c.args.rings.now) it c.args.position c.loop-hole.hole vertices there (c.inside.ensures.0 c.if-not-inside.false) (omega (arith, c.loop-hole-test.false)) c.loop-hole.invariant in
    (λ yes. is, λ in_it. refl)

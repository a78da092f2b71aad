use Rattle.std.proofs.Common.{rules}
use Rattle.mvt_sweep.specs.Rings.{rings_of}
use Rattle.mvt_polygon.proofs.ApartFaults.{rings_at, exterior_read}
use Rattle.mvt_feature.proofs.Features.LaterPolygons.{has_vertex, more_bounds}
use Rattle.mvt_sweep.proofs.Vertices.RingReads.{vertices_there}
use Rattle.mvt_feature.proofs.feature.later.spread.bounds_of.Goals as goal

pub offset_bounds-rings-exterior : goal.offset_bounds-rings-exterior
offset_bounds-rings-exterior c =
    let within = exterior_read c.args.rings.now c.args.polygons.now c.loop-other.other c.requires.listed c.loop-other-test.true in
    search rules

pub bounds-rings-exterior : goal.bounds-rings-exterior
bounds-rings-exterior c = exterior_read c.args.rings.now c.args.polygons.now c.loop-other.other c.requires.listed c.loop-other-test.true

pub of-requires : goal.of-requires
of-requires c =
    let exterior = (rings_at c.args.polygons.now c.loop-other.other).exterior in
    let vertices = c.deref.result.now in
    let within = exterior_read c.args.rings.now c.args.polygons.now c.loop-other.other c.requires.listed c.loop-other-test.true in
    has_vertex (rings_of c.args.rings.now) exterior vertices c.requires.drawn
    (vertices_there c.args.rings.now exterior c.index-rings-exterior.result vertices within c.index-rings-exterior.is c.deref.ensures.value)

pub loop-other-preserved : goal.loop-other-preserved
loop-other-preserved c =
    let exterior = (rings_at c.args.polygons.now c.loop-other.other).exterior in
    let vertices = c.deref.result.now in
    let within = exterior_read c.args.rings.now c.args.polygons.now c.loop-other.other c.requires.listed c.loop-other-test.true in
    let there = vertices_there c.args.rings.now exterior c.index-rings-exterior.result vertices within c.index-rings-exterior.is c.deref.ensures.value in
    rw c.in_ok-push.ensures.items
    (more_bounds (rings_of c.args.rings.now) c.args.polygons.now c.args.later c.loop-other.other c.loop-other.bounds.items c.of.result vertices c.loop-other.invariant there c.of.ensures)

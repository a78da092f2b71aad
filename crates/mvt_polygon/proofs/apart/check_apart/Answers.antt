use Rattle.std.proofs.Common.{rules, below_more, arith}
use Rattle.mvt_sweep.specs.Rings.{rings_of}
use Rattle.mvt_polygon.proofs.ApartFaults.{rings_at, rings_listed, exterior_read, exterior_there, vertex_there, around_position, first_vertex, no_vertex}
use Rattle.mvt_polygon.proofs.apart.check_apart.Goals as goal

pub offset_bounds-rings-exterior : goal.offset_bounds-rings-exterior
offset_bounds-rings-exterior c =
    let within = exterior_read c.args.rings.now c.args.groups.now c.args.polygon c.requires.listed c.requires.there in
    search rules

pub bounds-rings-exterior : goal.bounds-rings-exterior
bounds-rings-exterior c = exterior_read c.args.rings.now c.args.groups.now c.args.polygon c.requires.listed c.requires.there

pub returns-in-Some-clause-least : goal.returns-in-Some-clause-least
returns-in-Some-clause-least c =
    let rings = rings_of c.args.rings.now in
    let polygon = c.args.polygon in
    let vertex = c.loop-vertex.vertex in
    let exterior = c.index-rings-exterior.result in
    let position = c.index.result.now in
    let here = vertex_there c.args.rings.now c.args.groups.now polygon vertex exterior position c.requires.listed c.requires.there c.index-rings-exterior.is (omega (arith, c.loop-vertex-test.true, c.len-vertex-end.ensures)) c.index.ensures in
    first_vertex rings polygon vertex c.in-Some.other (rings_at c.args.groups.now polygon) position (rings_listed rings c.args.groups.now polygon c.requires.listed c.requires.there) here c.loop-vertex.invariant c.in-Some.ensures.first

pub loop-vertex-preserved : goal.loop-vertex-preserved
loop-vertex-preserved c =
    let rings = rings_of c.args.rings.now in
    let polygon = c.args.polygon in
    let vertex = c.loop-vertex.vertex in
    let exterior = c.index-rings-exterior.result in
    let position = c.index.result.now in
    let here = vertex_there c.args.rings.now c.args.groups.now polygon vertex exterior position c.requires.listed c.requires.there c.index-rings-exterior.is (omega (arith, c.loop-vertex-test.true, c.len-vertex-end.ensures)) c.index.ensures in
    let is_it = rings_listed rings c.args.groups.now polygon c.requires.listed c.requires.there in
    below_more _ _ c.loop-vertex.invariant
    (λ other fault. c.in_default.ensures.none other (around_position rings polygon vertex other (rings_at c.args.groups.now polygon) position is_it here fault))

pub returns-clause-none : goal.returns-clause-none
returns-clause-none c =
    let rings = rings_of c.args.rings.now in
    let polygon = c.args.polygon in
    let exterior = c.index-rings-exterior.result in
    let there = exterior_there c.args.rings.now c.args.groups.now polygon exterior c.requires.listed c.requires.there c.index-rings-exterior.is in
    no_vertex rings polygon (rings_at c.args.groups.now polygon) exterior.items (rings_listed rings c.args.groups.now polygon c.requires.listed c.requires.there) there
    (λ vertex within. c.loop-vertex.invariant vertex (omega (arith, c.loop-vertex-test.false, c.len-vertex-end.ensures)))

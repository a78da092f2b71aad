use Rattle.std.proofs.Common.{rules, arith}
use Rattle.mvt_sweep.specs.Rings.{rings_of}
use Rattle.mvt_polygon.proofs.ApartFaults.{rings_at, rings_listed, ends_within, exterior_read}
use Rattle.mvt_feature.proofs.Features.LaterPolygons.{fault_by_vertex, first_of_found, first_of_vertex, found_within, none_by_vertices, none_of_all, vertex_within}
use Rattle.mvt_sweep.proofs.Vertices.RingReads.{count_of_rings, ring_there, vertices_there}
use Rattle.mvt_feature.proofs.feature.later.first_with.Goals as goal

pub offset_bounds-rings-exterior : goal.offset_bounds-rings-exterior
offset_bounds-rings-exterior c =
    let within = exterior_read c.args.rings.now c.args.polygons.now c.args.polygon c.requires.listed (omega (arith, c.requires.earlier, c.requires.other)) in
    search rules

pub bounds-rings-exterior : goal.bounds-rings-exterior
bounds-rings-exterior c = exterior_read c.args.rings.now c.args.polygons.now c.args.polygon c.requires.listed (omega (arith, c.requires.earlier, c.requires.other))

pub first_after-until-requires : goal.first_after-until-requires
first_after-until-requires c =
    let rings = rings_of c.args.rings.now in
    let polygons = c.args.polygons.now in
    let polygon = c.args.polygon in
    let it = rings_at polygons polygon in
    let all = c.index-rings-exterior.result.items in
    let within = exterior_read c.args.rings.now polygons polygon c.requires.listed (omega (arith, c.requires.earlier, c.requires.other)) in
    let is_it = rings_listed rings polygons polygon c.requires.listed (omega (arith, c.requires.earlier, c.requires.other)) in
    let there = ring_there c.args.rings.now it.exterior c.index-rings-exterior.result within c.index-rings-exterior.is in
    found_within rings polygon c.len.result c.args.found
    (λ vertex other fault. let inside = vertex_within rings polygon it all is_it there vertex other fault in omega (arith, c.len.ensures)) c.requires.found

pub first_vertex_in-requires-clause-further : goal.first_vertex_in-requires-clause-further
first_vertex_in-requires-clause-further c = (rings_listed (rings_of c.args.rings.now) c.args.polygons.now c.args.other c.requires.listed c.requires.other).further

pub first_vertex_in-requires-clause-within : goal.first_vertex_in-requires-clause-within
first_vertex_in-requires-clause-within c =
    let rings = rings_of c.args.rings.now in
    let is_it = rings_listed rings c.args.polygons.now c.args.other c.requires.listed c.requires.other in
    omega (arith, ends_within rings c.args.other (rings_at c.args.polygons.now c.args.other) is_it, count_of_rings c.args.rings.now)

pub returns-in-Some : goal.returns-in-Some
returns-in-Some c =
    let rings = rings_of c.args.rings.now in
    let polygons = c.args.polygons.now in
    let polygon = c.args.polygon in
    let other = c.args.other in
    let it = rings_at polygons polygon in
    let its = rings_at polygons other in
    let until = c.first_after-until.result in
    let vertices = c.deref.result.now in
    let vertex = c.in-Some.vertex in
    let first = c.in-Some.ensures.first in
    let within = exterior_read c.args.rings.now polygons polygon c.requires.listed (omega (arith, c.requires.earlier, c.requires.other)) in
    let is_it = rings_listed rings polygons polygon c.requires.listed (omega (arith, c.requires.earlier, c.requires.other)) in
    let is_its = rings_listed rings polygons other c.requires.listed c.requires.other in
    let there = vertices_there c.args.rings.now it.exterior c.index-rings-exterior.result vertices within c.index-rings-exterior.is c.deref.ensures.value in
    let fault = fault_by_vertex rings polygon other until vertex it its vertices is_it is_its there (λ same. omega (arith, c.requires.earlier)) first in
    let less = fault.0 in
    first_of_vertex rings polygon other until vertex c.args.found fault.1 less
    (none_by_vertices rings polygon other until it its vertices is_it is_its there vertex (omega arith) first.first) c.first_after-until.ensures.before

pub returns-in-None : goal.returns-in-None
returns-in-None c =
    let rings = rings_of c.args.rings.now in
    let polygons = c.args.polygons.now in
    let polygon = c.args.polygon in
    let other = c.args.other in
    let it = rings_at polygons polygon in
    let its = rings_at polygons other in
    let until = c.first_after-until.result in
    let vertices = c.deref.result.now in
    let within = exterior_read c.args.rings.now polygons polygon c.requires.listed (omega (arith, c.requires.earlier, c.requires.other)) in
    let is_it = rings_listed rings polygons polygon c.requires.listed (omega (arith, c.requires.earlier, c.requires.other)) in
    let is_its = rings_listed rings polygons other c.requires.listed c.requires.other in
    let there = vertices_there c.args.rings.now it.exterior c.index-rings-exterior.result vertices within c.index-rings-exterior.is c.deref.ensures.value in
    first_of_found rings polygon other until _ c.args.found
    (λ vertex fault. let inside = vertex_within rings polygon it vertices is_it there vertex other fault in omega (arith, c.len.ensures, c.deref.ensures.len))
    (none_of_all rings polygon other until it its vertices is_it is_its there (omega (arith, c.first_after-until.ensures.within, c.len.ensures, c.deref.ensures.len)) c.in-None.ensures.none) c.first_after-until.ensures.none c.first_after-until.ensures.following

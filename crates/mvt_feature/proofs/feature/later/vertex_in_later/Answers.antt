use Rattle.std.proofs.Common.{rules, ◌+◌, ◌-◌, ◌<◌, length, refl, arith}
use Rattle.std.proofs.lemmas.Option.{slice_get_read}
use Rattle.mvt_sweep.specs.Rings.{rings_of}
use Rattle.mvt_polygon.proofs.ApartFaults.{rings_at, rings_listed, exterior_read}
use Rattle.mvt_feature.proofs.Features.LaterPolygons.{apart_after, apart_here, first_of_all, found_beyond_reach, found_everywhere, found_with, found_without, has_vertex, none_at_all, none_at_place}
use Rattle.mvt_sweep.proofs.Vertices.RingReads.{vertices_there}
use Rattle.mvt_sweep.proofs.Vertices.WiderBounds.{beyond_read, not_at_most}
use Rattle.mvt_feature.proofs.feature.later.vertex_in_later.Goals as goal

pub offset_bounds-rings-exterior : goal.offset_bounds-rings-exterior
offset_bounds-rings-exterior c =
    let within = exterior_read c.args.rings.now c.args.polygons.now c.args.polygon c.requires.listed (omega (arith, c.requires.earlier, c.requires.later)) in
    search rules

pub bounds-rings-exterior : goal.bounds-rings-exterior
bounds-rings-exterior c = exterior_read c.args.rings.now c.args.polygons.now c.args.polygon c.requires.listed (omega (arith, c.requires.earlier, c.requires.later))

pub of-own-requires : goal.of-own-requires
of-own-requires c =
    let exterior = (rings_at c.args.polygons.now c.args.polygon).exterior in
    let vertices = c.deref.result.now in
    let within = exterior_read c.args.rings.now c.args.polygons.now c.args.polygon c.requires.listed (omega (arith, c.requires.earlier, c.requires.later)) in
    has_vertex (rings_of c.args.rings.now) exterior vertices c.requires.drawn
    (vertices_there c.args.rings.now exterior c.index-rings-exterior.result vertices within c.index-rings-exterior.is c.deref.ensures.value)

pub back-init : goal.back-init
back-init c =
    let rings = rings_of c.args.rings.now in
    let polygons = c.args.polygons.now in
    let polygon = c.args.polygon in
    let it = rings_at polygons polygon in
    let vertices = c.deref.result.now in
    let within = exterior_read c.args.rings.now polygons polygon c.requires.listed (omega (arith, c.requires.earlier, c.requires.later)) in
    let is_it = rings_listed rings polygons polygon c.requires.listed (omega (arith, c.requires.earlier, c.requires.later)) in
    let there = vertices_there c.args.rings.now it.exterior c.index-rings-exterior.result vertices within c.index-rings-exterior.is c.deref.ensures.value in
    let bounds = c.args.spread.now.bounds.items in
    let order = c.args.spread.now.order.items in
    let own = c.of-own.result in
    let all = c.requires.spread.bounds in
    let in_order = c.requires.spread.order in
    record {
      within = c.begun-at.ensures.within;
      found = λ place left number from here.
          none_at_place rings polygons c.args.later polygon it vertices own bounds order place left number c.requires.listed all in_order is_it there c.of-own.ensures here
          (apart_after own bounds order place left number in_order here (beyond_read own.right left (search rules) (c.begun-at.ensures.following place left number from here)));
    }

pub index-its-requires : goal.index-its-requires
index-its-requires c =
    let order = c.args.spread.now.order.items in
    let pair = c.index-in-back.result.now in
    let here = slice_get_read order _ (c.back.at - 1) pair refl (omega (arith, c.back.invariant.within, c.back-test.true)) c.index-in-back.ensures in
    let known = c.requires.spread.order.numbering.known (c.back.at - 1) pair.0 pair.1 here in
    omega arith

pub overflow_add-later : goal.overflow_add-later
overflow_add-later c =
    let order = c.args.spread.now.order.items in
    let pair = c.index-in-back.result.now in
    let here = slice_get_read order _ (c.back.at - 1) pair refl (omega (arith, c.back.invariant.within, c.back-test.true)) c.index-in-back.ensures in
    let known = c.requires.spread.order.numbering.known (c.back.at - 1) pair.0 pair.1 here in
    let count = c.requires.spread.bounds.count in
    let within : c.args.later + pair.1 < length c.args.polygons.now = omega arith in
    search rules

pub first_with-found-requires-clause-other : goal.first_with-found-requires-clause-other
first_with-found-requires-clause-other c =
    let order = c.args.spread.now.order.items in
    let pair = c.index-in-back.result.now in
    let here = slice_get_read order _ (c.back.at - 1) pair refl (omega (arith, c.back.invariant.within, c.back-test.true)) c.index-in-back.ensures in
    let known = c.requires.spread.order.numbering.known (c.back.at - 1) pair.0 pair.1 here in
    let count = c.requires.spread.bounds.count in
    omega arith

pub first_with-found-requires-clause-bounds : goal.first_with-found-requires-clause-bounds
first_with-found-requires-clause-bounds c =
    let order = c.args.spread.now.order.items in
    let pair = c.index-in-back.result.now in
    let here = slice_get_read order _ (c.back.at - 1) pair refl (omega (arith, c.back.invariant.within, c.back-test.true)) c.index-in-back.ensures in
    let known = c.requires.spread.order.numbering.known (c.back.at - 1) pair.0 pair.1 here in
    let its = c.index-its.result.now in
    λ exterior there. c.requires.spread.bounds.are pair.1 its exterior (slice_get_read c.args.spread.now.bounds.items _ pair.1 its refl known c.index-its.ensures) there

pub back-preserved-then-not-are_apart : goal.back-preserved-then-not-are_apart
back-preserved-then-not-are_apart c =
    let order = c.args.spread.now.order.items in
    let pair = c.index-in-back.result.now in
    let here = slice_get_read order _ (c.back.at - 1) pair refl (omega (arith, c.back.invariant.within, c.back-test.true)) c.index-in-back.ensures in
    let known = c.requires.spread.order.numbering.known (c.back.at - 1) pair.0 pair.1 here in
    record {
      within = omega (arith, c.back.invariant.within);
      found = found_with (rings_of c.args.rings.now) c.args.later c.args.polygon order c.back.at (c.back.at - 1) pair.0 pair.1 c.back.found c.first_with-found.result (omega arith) here
          c.back.invariant.found c.first_with-found.ensures;
    }

pub back-preserved : goal.back-preserved
back-preserved c =
    let rings = rings_of c.args.rings.now in
    let polygons = c.args.polygons.now in
    let polygon = c.args.polygon in
    let it = rings_at polygons polygon in
    let vertices = c.deref.result.now in
    let within = exterior_read c.args.rings.now polygons polygon c.requires.listed (omega (arith, c.requires.earlier, c.requires.later)) in
    let is_it = rings_listed rings polygons polygon c.requires.listed (omega (arith, c.requires.earlier, c.requires.later)) in
    let there = vertices_there c.args.rings.now it.exterior c.index-rings-exterior.result vertices within c.index-rings-exterior.is c.deref.ensures.value in
    let bounds = c.args.spread.now.bounds.items in
    let order = c.args.spread.now.order.items in
    let own = c.of-own.result in
    let all = c.requires.spread.bounds in
    let in_order = c.requires.spread.order in
    let pair = c.index-in-back.result.now in
    let here = slice_get_read order _ (c.back.at - 1) pair refl (omega (arith, c.back.invariant.within, c.back-test.true)) c.index-in-back.ensures in
    let known = in_order.numbering.known (c.back.at - 1) pair.0 pair.1 here in
    let its = c.index-its.result.now in
    let its_there = slice_get_read bounds _ pair.1 its refl known c.index-its.ensures in
    record {
      within = omega (arith, c.back.invariant.within);
      found = found_without rings c.args.later polygon order c.back.at (c.back.at - 1) pair.0 pair.1 c.back.found (omega arith) here c.back.invariant.found
          (none_at_place rings polygons c.args.later polygon it vertices own bounds order (c.back.at - 1) pair.0 pair.1 c.requires.listed all in_order is_it there c.of-own.ensures here
          (apart_here own its bounds pair.1 its_there (c.are_apart.ensures c.if-not-are_apart.false)));
    }

pub returns-else-own-index-clause-none : goal.returns-else-own-index-clause-none
returns-else-own-index-clause-none c =
    let rings = rings_of c.args.rings.now in
    let polygons = c.args.polygons.now in
    let polygon = c.args.polygon in
    let it = rings_at polygons polygon in
    let vertices = c.deref.result.now in
    let within = exterior_read c.args.rings.now polygons polygon c.requires.listed (omega (arith, c.requires.earlier, c.requires.later)) in
    let is_it = rings_listed rings polygons polygon c.requires.listed (omega (arith, c.requires.earlier, c.requires.later)) in
    let there = vertices_there c.args.rings.now it.exterior c.index-rings-exterior.result vertices within c.index-rings-exterior.is c.deref.ensures.value in
    let bounds = c.args.spread.now.bounds.items in
    let order = c.args.spread.now.order.items in
    let own = c.of-own.result in
    let all = c.requires.spread.bounds in
    let in_order = c.requires.spread.order in
    let reaches = c.args.spread.now.reaches.items in
    let reach = c.index.result.now in
    let count = c.requires.spread.reaches.count in
    let reach_there = slice_get_read reaches _ (c.back.at - 1) reach refl (omega (arith, c.back.invariant.within, c.back-test.true)) c.index.ensures in
    let whole = found_beyond_reach rings polygons c.args.later polygon it vertices own bounds order reaches c.back.at reach c.back.found c.requires.listed all in_order c.requires.spread.reaches is_it there c.of-own.ensures
    reach_there (not_at_most own.left reach (search rules) (search rules) c.if-own-index.false) c.back.invariant.found in
    none_at_all (rings_of c.args.rings.now) c.args.polygons.now c.args.later c.args.polygon c.args.spread.now.bounds.items c.args.spread.now.order.items c.back.found c.requires.listed c.requires.spread.bounds
    c.requires.spread.order whole

pub returns-else-own-index-clause-first : goal.returns-else-own-index-clause-first
returns-else-own-index-clause-first c =
    let rings = rings_of c.args.rings.now in
    let polygons = c.args.polygons.now in
    let polygon = c.args.polygon in
    let it = rings_at polygons polygon in
    let vertices = c.deref.result.now in
    let within = exterior_read c.args.rings.now polygons polygon c.requires.listed (omega (arith, c.requires.earlier, c.requires.later)) in
    let is_it = rings_listed rings polygons polygon c.requires.listed (omega (arith, c.requires.earlier, c.requires.later)) in
    let there = vertices_there c.args.rings.now it.exterior c.index-rings-exterior.result vertices within c.index-rings-exterior.is c.deref.ensures.value in
    let bounds = c.args.spread.now.bounds.items in
    let order = c.args.spread.now.order.items in
    let own = c.of-own.result in
    let all = c.requires.spread.bounds in
    let in_order = c.requires.spread.order in
    let reaches = c.args.spread.now.reaches.items in
    let reach = c.index.result.now in
    let count = c.requires.spread.reaches.count in
    let reach_there = slice_get_read reaches _ (c.back.at - 1) reach refl (omega (arith, c.back.invariant.within, c.back-test.true)) c.index.ensures in
    let whole = found_beyond_reach rings polygons c.args.later polygon it vertices own bounds order reaches c.back.at reach c.back.found c.requires.listed all in_order c.requires.spread.reaches is_it there c.of-own.ensures
    reach_there (not_at_most own.left reach (search rules) (search rules) c.if-own-index.false) c.back.invariant.found in
    first_of_all (rings_of c.args.rings.now) c.args.polygons.now c.args.later c.args.polygon c.args.spread.now.bounds.items c.args.spread.now.order.items c.back.found c.requires.listed c.requires.spread.bounds
    c.requires.spread.order whole

pub returns-after-back-clause-none : goal.returns-after-back-clause-none
returns-after-back-clause-none c =
    let whole = found_everywhere (rings_of c.args.rings.now) c.args.later c.args.polygon c.args.spread.now.order.items c.back.at c.back.found c.back-test.false c.back.invariant.found in
    none_at_all (rings_of c.args.rings.now) c.args.polygons.now c.args.later c.args.polygon c.args.spread.now.bounds.items c.args.spread.now.order.items c.back.found c.requires.listed c.requires.spread.bounds
    c.requires.spread.order whole

pub returns-after-back-clause-first : goal.returns-after-back-clause-first
returns-after-back-clause-first c =
    let whole = found_everywhere (rings_of c.args.rings.now) c.args.later c.args.polygon c.args.spread.now.order.items c.back.at c.back.found c.back-test.false c.back.invariant.found in
    first_of_all (rings_of c.args.rings.now) c.args.polygons.now c.args.later c.args.polygon c.args.spread.now.bounds.items c.args.spread.now.order.items c.back.found c.requires.listed c.requires.spread.bounds
    c.requires.spread.order whole

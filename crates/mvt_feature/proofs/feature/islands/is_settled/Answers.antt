use Rattle.std.proofs.Common.{◌<◌, length, refl, arith}
use Rattle.std.proofs.lemmas.Option.{slice_get_read}
use Rattle.mvt_rules.specs.Polygon.{PolygonRings}
use Rattle.mvt_feature.specs.Calls.Lands.{IsOnlyLake}
use Rattle.mvt_sweep.specs.Rings.{rings_of}
use Rattle.mvt_feature.proofs.Cells.Lakes.{of_some}
use Rattle.mvt_sweep.proofs.Vertices.RingReads.{ring_there, vertices_there}
use Rattle.mvt_feature.proofs.feature.islands.is_settled.Goals as goal

pub index-requires : goal.index-requires
index-requires c =
    let there = ring_there c.args.rings.now c.args.land.0 c.index-rings-land.result c.requires.land c.index-rings-land.is in
    let several = c.requires.drawn.several c.args.land.0 c.index-rings-land.result.items there in
    omega arith

pub is_island-requires : goal.is_island-requires
is_island-requires c =
    let there = vertices_there c.args.rings.now c.args.polygon.0 c.index-rings-exterior.result c.deref.result.now c.requires.there c.index-rings-exterior.is c.deref.ensures.value in
    let several = c.requires.drawn.several c.args.polygon.0 c.deref.result.now there in
    omega arith

pub returns-clause-island : goal.returns-clause-island
returns-clause-island c = λ yes.
    let rings = rings_of c.args.rings.now in
    let it : PolygonRings = record { exterior = c.args.polygon.0; after = c.args.polygon.1 } in
    let its : PolygonRings = record { exterior = c.args.land.0; after = c.args.land.1 } in
    let hole = c.in-Some.hole in
    let lake = of_some (IsOnlyLake rings it its) c.args.lake hole c.requires.lake c.in-Some.is in
    let before = lake.is.before in
    let land = c.index-rings-land.result in
    let land_there = ring_there c.args.rings.now c.args.land.0 land c.requires.land c.index-rings-land.is in
    let several = c.requires.drawn.several c.args.land.0 land.items land_there in
    let there = vertices_there c.args.rings.now c.args.polygon.0 c.index-rings-exterior.result c.deref.result.now c.requires.there c.index-rings-exterior.is c.deref.ensures.value in
    let inside : hole < length c.args.rings.now = omega (arith, c.requires.within) in
    let hole_there = vertices_there c.args.rings.now hole c.index-rings-hole.result c.deref-2.result.now inside c.index-rings-hole.is c.deref-2.ensures.value in
    record {
      single = omega arith;
      ring = c.deref.result.now;
      there = there;
      hole = hole;
      is = lake.is;
      around = c.deref-2.result.now;
      hole_there = hole_there;
      within = c.is_island.ensures.within yes;
      far = λ other vertices is differ other_there. lake.far other c.deref.result.now vertices is differ there other_there;
      vertex = 0;
      position = c.index.result.now;
      beyond = record { vertices = land.items; there = land_there; here = slice_get_read land.items (length land.items) 0 c.index.result.now refl (omega arith) c.index.ensures };
      not_in_hole = c.is_island.ensures.not_in_hole yes;
      not_in_ring = c.is_island.ensures.not_in_ring yes;
    }

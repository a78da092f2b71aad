use Rattle.std.proofs.Common.{arith, rules, sym, w32}
use Rattle.std.proofs.lemmas.Int.{to_z-of_z}
use Rattle.mvt_sweep.specs.Rings.{rings_of}
use Rattle.mvt_polygon.proofs.ApartFaults.{rings_at, rings_listed, ends_within}
use Rattle.mvt_feature.proofs.Cells.PolygonSpans.{more_spans}
use Rattle.mvt_sweep.proofs.Vertices.RingReads.{count_of_rings}
use Rattle.mvt_feature.proofs.feature.crowded.spans_of.Goals as goal

pub of_polygon-bounds-requires-clause-further : goal.of_polygon-bounds-requires-clause-further
of_polygon-bounds-requires-clause-further c = (rings_listed (rings_of c.args.rings.now) c.args.polygons.now c.loop-polygon.polygon c.requires.listed c.loop-polygon-test.true).further

pub of_polygon-bounds-requires-clause-within : goal.of_polygon-bounds-requires-clause-within
of_polygon-bounds-requires-clause-within c =
    let rings = rings_of c.args.rings.now in
    let polygon = c.loop-polygon.polygon in
    let is_it = rings_listed rings c.args.polygons.now polygon c.requires.listed c.loop-polygon-test.true in
    omega (arith, ends_within rings polygon (rings_at c.args.polygons.now polygon) is_it, count_of_rings c.args.rings.now)

pub loop-polygon-preserved : goal.loop-polygon-preserved
loop-polygon-preserved c =
    let bounds = c.of_polygon-bounds.result in
    more_spans (rings_of c.args.rings.now) c.args.polygons.now c.loop-polygon.polygon c.loop-polygon.across.items c.push.new.self.items c.loop-polygon.upward.items c.push-in-loop-polygon.new.self.items _ _
    c.loop-polygon.invariant
    (record {
      bounds = bounds;
      of = c.of_polygon-bounds.ensures;
      left = sym (to_z-of_z w32 bounds.left (search rules));
      right = sym (to_z-of_z w32 bounds.right (search rules));
      low = sym (to_z-of_z w32 bounds.low (search rules));
      high = sym (to_z-of_z w32 bounds.high (search rules));
    })
    c.in_ok-push.ensures.items c.in_ok-push-2.ensures.items

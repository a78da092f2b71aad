use Rattle.std.proofs.Common.{below_more, refl, subst, arith}
use Rattle.std.proofs.lemmas.Option.{slice_get_read}
use Rattle.mvt_rules.specs.Nesting.{IsInsidePolygon}
use Rattle.mvt_rules.specs.Polygon.{PolygonRings}
use Rattle.mvt_feature.specs.Calls.Bounds.{AreNotIn}
use Rattle.mvt_sweep.specs.Bounds.{IsInBounds}
use Rattle.mvt_sweep.specs.Rings.{rings_of}
use Rattle.mvt_feature.proofs.Cells.OutsideBounds.{outside_polygon, not_this_one}
use Rattle.mvt_sweep.proofs.Vertices.RingReads.{fails}
use Rattle.mvt_feature.proofs.feature.later.first_vertex_in.Goals as goal
use Rattle.mvt_feature.proofs.feature.later.first_vertex_in.Goals.{else-contain-via-then-contain+else-is_in_polygon, else-contain-via-else-contain}

pub loop-vertex-preserved : goal.loop-vertex-preserved
loop-vertex-preserved c =
    let rings = rings_of c.args.rings.now in
    let it : PolygonRings = record { exterior = c.args.polygon.0; after = c.args.polygon.1 } in
    let position = c.index-vertices-vertex.result in
    let here = slice_get_read c.args.vertices.now _ c.loop-vertex.vertex position refl c.loop-vertex-test.true c.index-vertices-vertex.is in
    below_more _ _ c.loop-vertex.invariant
    (not_this_one rings it c.args.vertices.now c.loop-vertex.vertex position here
    (elim c.else-contain.branch [
      | else-contain-via-then-contain+else-is_in_polygon w ↦ fails (IsInsidePolygon rings it position) w.is_in_polygon.result w.is_in_polygon.ensures w.if-is_in_polygon.false
      | else-contain-via-else-contain w ↦
          outside_polygon rings it position c.args.bounds.now c.requires.bounds (fails (IsInBounds c.args.bounds.now position) c.contain.result c.contain.ensures w.if-contain.false)
    ]))

pub returns-then-is_in_polygon-clause-first : goal.returns-then-is_in_polygon-clause-first
returns-then-is_in_polygon-clause-first c =
    let position = c.index-vertices-vertex.result in
    record {
      position = position;
      here = slice_get_read c.args.vertices.now _ c.loop-vertex.vertex position refl c.loop-vertex-test.true c.index-vertices-vertex.is;
      inside = c.if-is_in_polygon.ensures.0 refl;
      first = c.loop-vertex.invariant;
    }

pub returns-clause-none : goal.returns-clause-none
returns-clause-none c =
    let it : PolygonRings = record { exterior = c.args.polygon.0; after = c.args.polygon.1 } in
    subst (AreNotIn (rings_of c.args.rings.now) it c.args.vertices.now) (omega (arith, c.loop-vertex-test.false, c.loop-vertex.auto.vertex-end)) c.loop-vertex.invariant

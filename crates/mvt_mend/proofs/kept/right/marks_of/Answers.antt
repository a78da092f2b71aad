use Rattle.std.proofs.Common.{arith}
use Rattle.mvt_sweep.specs.Rings.{rings_of}
use Rattle.mvt_polygon.proofs.ApartFaults.{ends_within, rings_at, rings_listed}
use Rattle.mvt_sweep.proofs.Vertices.RingReads.{count_of_rings}
use Rattle.mvt_mend.proofs.RightPolygons.{none_marked, one_more_marked, all_marked}
use Rattle.mvt_mend.proofs.kept.right.marks_of.Goals as goal

pub loop-polygon-preserved : goal.loop-polygon-preserved
loop-polygon-preserved c =
    let rings = c.args.rings.now in
    let polygons = c.args.polygons.now in
    let polygon = c.loop-polygon.polygon in
    one_more_marked rings polygons c.loop-polygon.right.items _ polygon (rings_at polygons polygon) c.in_ok-is_right.field-0 c.loop-polygon.invariant (rings_listed (rings_of rings) polygons polygon c.requires c.loop-polygon-test.true)
    c.in_ok-is_right.ensures c.in_ok-push.ensures.items

pub loop-polygon-init : goal.loop-polygon-init
loop-polygon-init c = rw c.in_ok-right.ensures.items (none_marked (rings_of c.args.rings.now))

pub returns : goal.returns
returns c = all_marked (rings_of c.args.rings.now) c.args.polygons.now c.loop-polygon.right.items c.loop-polygon.polygon c.requires c.loop-polygon.invariant (omega (arith, c.loop-polygon-test.false, c.loop-polygon.auto.polygon-end))

pub is_right-requires-clause-in_order : goal.is_right-requires-clause-in_order
is_right-requires-clause-in_order c = (rings_listed (rings_of c.args.rings.now) c.args.polygons.now c.loop-polygon.polygon c.requires (omega (arith, c.loop-polygon-test.true))).further

pub is_right-requires-clause-within : goal.is_right-requires-clause-within
is_right-requires-clause-within c =
    let rings = c.args.rings.now in
    let polygons = c.args.polygons.now in
    let polygon = c.loop-polygon.polygon in
    omega (arith, count_of_rings rings, ends_within (rings_of rings) polygon (rings_at polygons polygon) (rings_listed (rings_of rings) polygons polygon c.requires c.loop-polygon-test.true))

use Rattle.std.proofs.Common.{suc, pos, ◌<ℤ◌}
use Rattle.mvt_plane.specs.Geometry.Ring.{doubled_area}
use Rattle.mvt_sweep.specs.Rings.{rings_of}
use Rattle.mvt_polygon.proofs.PolygonList.{is_exterior}
use Rattle.mvt_sweep.proofs.Vertices.RingReads.{vertices_there, fails}
use Rattle.mvt_rules.proofs.Rings.PolygonNumbers.{one_more_hole}
use Rattle.mvt_polygon.proofs.polygons.polygon_end.Goals as goal

pub loop-ring-preserved : goal.loop-ring-preserved
loop-ring-preserved c =
    let rings = rings_of c.args.rings.now in
    let ring = c.loop-ring.ring in
    let vertices = c.deref.result.now in
    let there = vertices_there c.args.rings.now ring c.index-rings-ring.result vertices c.loop-ring-test.true c.index-rings-ring.is c.deref.ensures.value in
    let not = fails (pos 0 <ℤ doubled_area vertices) c.is_exterior.result c.is_exterior.ensures c.if-is_exterior.false in
    one_more_hole rings (suc c.args.exterior) ring c.loop-ring.invariant (λ exterior. not ((is_exterior rings ring vertices there).1 exterior))

use Rattle.std.proofs.Common.{◌<◌, length, pos, ◌<ℤ◌, arith}
use Rattle.mvt_plane.specs.Geometry.Ring.{doubled_area}
use Rattle.mvt_sweep.specs.Rings.{rings_of}
use Rattle.mvt_polygon.proofs.PolygonList.{is_exterior}
use Rattle.mvt_sweep.proofs.Vertices.RingReads.{vertices_there, fails}
use Rattle.mvt_rules.proofs.Rings.PolygonNumbers.{none_from_next}
use Rattle.mvt_mend.proofs.kept.first_exterior.Goals as goal

pub returns-clause-none : goal.returns-clause-none
returns-clause-none c =
    let rings = rings_of c.args.rings.now in
    let vertices = c.deref.result.now in
    let some : 0 < length c.args.rings.now = omega (arith, c.polygon_end.ensures.further, c.polygon_end.ensures.within) in
    let there = vertices_there c.args.rings.now 0 c.index-rings-0.result vertices some c.index-rings-0.is c.deref.ensures.value in
    let not = fails (pos 0 <ℤ doubled_area vertices) c.is_exterior.result c.is_exterior.ensures c.if-is_exterior.false in
    none_from_next rings 0 c.polygon_end.result (λ exterior. not ((is_exterior rings 0 vertices there).1 exterior)) c.polygon_end.ensures.holes

use Rattle.std.proofs.Common.{◌≡◌, pos, below_more}
use Rattle.mvt_plane.specs.Geometry.Ring.{doubled_area}
use Rattle.mvt_sweep.specs.Rings.{rings_of}
use Rattle.mvt_sweep.proofs.Vertices.RingReads.{vertices_there, fails}
use Rattle.mvt_mend.proofs.KeptPolygons.{first_with_area, flat_elsewhere, not_false}
use Rattle.mvt_mend.proofs.kept.begin_with_hole.Goals as goal

pub returns-then-not-has_no_area : goal.returns-then-not-has_no_area
returns-then-not-has_no_area c begin hole =
    let rings = rings_of c.args.rings.now in
    let ring = c.loop-ring.ring in
    let vertices = c.deref.result.now in
    let there = vertices_there c.args.rings.now ring c.index-rings-ring.result vertices c.loop-ring-test.true c.index-rings-ring.is c.deref.ensures.value in
    let others = c.deref-then-not-has_no_area.result.now in
    let others_there = vertices_there c.args.rings.now ring c.index-rings-ring-then-not-has_no_area.result others c.loop-ring-test.true c.index-rings-ring-then-not-has_no_area.is c.deref-then-not-has_no_area.ensures.value in
    let some = fails (doubled_area vertices ≡ pos 0) c.has_no_area.result c.has_no_area.ensures c.if-not-has_no_area.true in
    let flat = flat_elsewhere rings ring vertices others there others_there some in
    not_false c.is_exterior.result hole (c.is_exterior.ensures.1 (first_with_area rings ring others others_there c.loop-ring.invariant flat begin))

pub loop-ring-preserved : goal.loop-ring-preserved
loop-ring-preserved c =
    let ring = c.loop-ring.ring in
    let vertices = c.deref.result.now in
    below_more _ _ c.loop-ring.invariant (record {
      ring = vertices;
      there = vertices_there c.args.rings.now ring c.index-rings-ring.result vertices c.loop-ring-test.true c.index-rings-ring.is c.deref.ensures.value;
      none = c.has_no_area.ensures.0 c.if-not-has_no_area.false;
    })

-- A polygon that has edges that meet wrongly isn't right.
use Rattle.std.proofs.Common.{List, length, Vec}
use Rattle.std.specs.declared.alloc.Global.{Global}
use Rattle.mvt_fault.specs.declared.ring.RingEdge.{RingEdge}
use Rattle.mvt_plane.specs.Geometry.RationalPoint.{RationalPoint}
use Rattle.mvt_plane.specs.Position.{Position}
use Rattle.mvt_rules.specs.Meeting.{MeetsWrongly}
use Rattle.mvt_rules.specs.Polygon.{IsPolygon}
use Rattle.mvt_polygon.specs.Nesting.{one_polygon}
use Rattle.mvt_sweep.specs.Rings.{rings_of}
use Rattle.mvt_mend.specs.Calls.Judged.{AreRightRings}
use Rattle.mvt_mend.proofs.RightPolygons.{as_one_polygon, ring_within}

pub none_right : (rings : List (Vec Position Global)) (first second : RingEdge) (point : RationalPoint) → MeetsWrongly (rings_of rings) first second point
    → IsPolygon (rings_of rings) 0 (record { exterior = 0; after = length rings }) → ¬ AreRightRings (rings_of rings)
none_right rings first second point meets is_it right =
    let it = right.valid.polygons 0 (one_polygon (rings_of rings)) (as_one_polygon rings is_it) in
    it.apart first second point (ring_within (rings_of rings) first.ring meets.one_there.ring meets.one_there.there)
    (ring_within (rings_of rings) second.ring meets.other_there.ring meets.other_there.there) meets

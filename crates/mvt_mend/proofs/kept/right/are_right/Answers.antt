use Rattle.std.proofs.Common.{length, refl, subst, arith}
use Rattle.mvt_rules.specs.Polygon.{PolygonRings}
use Rattle.mvt_polygon.specs.PolygonFault.{IsPolygonAnswer}
use Rattle.mvt_polygon.proofs.PolygonSlices.{fault_of_all}
use Rattle.mvt_sweep.specs.Rings.{rings_of}
use Rattle.mvt_sweep.proofs.Vertices.RingReads.{count_of_rings}
use Rattle.mvt_mend.proofs.RightPolygons.{as_one_polygon, fault_of_polygon, fault_of_rings}
use Rattle.mvt_mend.proofs.kept.right.are_right.Goals as goal

pub returns-in-Some : goal.returns-in-Some
returns-in-Some c is_it right = absurd (fault_of_rings (rings_of c.args.rings.now) _ c.in-Some.ensures.least right.valid.sound)

pub returns-in-Some-2 : goal.returns-in-Some-2
returns-in-Some-2 c is_it right =
    let rings = rings_of c.args.rings.now in
    let it : PolygonRings = record { exterior = 0; after = length c.args.rings.now } in
    let answer = subst (IsPolygonAnswer rings it) c.in-Some-2.is c.in_ok-_fault.ensures.answer in
    let alone = fault_of_all rings it c.in-Some-2._fault refl (omega (arith, count_of_rings c.args.rings.now)) answer in
    absurd (fault_of_polygon rings alone.0 (as_one_polygon c.args.rings.now is_it) alone.1 right.valid)

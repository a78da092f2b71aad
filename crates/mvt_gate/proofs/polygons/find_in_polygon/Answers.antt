use Rattle.std.proofs.Common.{◌≤◌, List, length, Some, subst, arith}
use Rattle.mvt_wire.proofs.NothingFound.{IfNone-any}
use Rattle.mvt_fault.specs.declared.profile.Profile.TheVariants.{Polygon}
use Rattle.mvt_plane.specs.Position.{Position}
use Rattle.mvt_rules.specs.Polygon.{PolygonRings}
use Rattle.mvt_rules.specs.PolygonFault.{IsPolygonOf}
use Rattle.mvt_polygon.specs.PolygonFault.{IsPolygonAnswer}
use Rattle.mvt_polygon.specs.declared.polygon.PolygonFault.{PolygonFault}
use Rattle.mvt_polygon.specs.declared.polygon.PolygonFault.TheVariants.{Meeting, Nesting}
use Rattle.mvt_sweep.proofs.Vertices.RingReads.{count_of_rings}
use Rattle.mvt_sweep.specs.Rings.{rings_of}
use Rattle.mvt_gate.proofs.PolygonParts.{apart_in_whole, first_hole_is_least}
use Rattle.mvt_gate.proofs.PolygonPlaces.{least_of_meeting, valid_alone}
use Rattle.mvt_gate.specs.Calls.Polygons.{IsFirstOfRings, AreValidBefore, polygon_fault}
use Rattle.mvt_gate.specs.declared.polygons.PolygonPlace.{PolygonPlace}
use Rattle.mvt_gate.proofs.polygons.find_in_polygon.Goals as goal

pub check_polygon-requires-clause-in_order : goal.check_polygon-requires-clause-in_order
check_polygon-requires-clause-in_order c = omega (arith, c.requires.polygon.there.further)

-- what was found is the first fault of the feature
least_of_found : (rings : List (List Position)) (place : PolygonPlace) (it : PolygonRings) (found : PolygonFault) → it.after ≤ length rings → IsPolygonOf rings place.polygon it → AreValidBefore Polygon rings place.polygon
    → IsPolygonAnswer rings it (Some found) → IsFirstOfRings Polygon rings place.layer place.feature (polygon_fault place found)
least_of_found rings place it (Meeting meeting) within of_it before answer = least_of_meeting Polygon rings place it meeting within of_it before answer
least_of_found rings place it (Nesting fault) within of_it before answer = first_hole_is_least Polygon rings place it fault within of_it before (apart_in_whole rings it answer.0) answer.1

pub returns-in-Some-clause-least : goal.returns-in-Some-clause-least
returns-in-Some-clause-least c =
    let rings = rings_of c.args.rings.now in
    let it : PolygonRings = record { exterior = c.args.exterior; after = c.args.after } in
    rw c.store_fault.ensures
    (least_of_found rings c.args.place it c.in-Some.fault (omega (arith, count_of_rings c.args.rings.now, c.requires.within)) c.requires.polygon c.requires.before
    (subst (IsPolygonAnswer rings it) c.in-Some.is c.in_ok-fault.ensures.answer))

pub returns-in_default-clause-valid : goal.returns-in_default-clause-valid
returns-in_default-clause-valid c =
    let rings = rings_of c.args.rings.now in
    let it : PolygonRings = record { exterior = c.args.exterior; after = c.args.after } in
    let answer = subst (IsPolygonAnswer rings it) c.in_default.is c.in_ok-fault.ensures.answer in
    IfNone-any c.args.found.now (valid_alone rings it (omega (arith, count_of_rings c.args.rings.now, c.requires.within)) answer.0 answer.1)

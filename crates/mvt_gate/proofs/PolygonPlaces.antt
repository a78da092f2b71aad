-- What is found in the rings of one polygon, as a fault of its feature.
use Rattle.std.proofs.Common.{◌≡◌, ℕ, suc, ◌+◌, ◌<◌, ◌≤◌, ◌⊎◌, inl, inr, List, length, subst, Vec, arith}
use Rattle.std.proofs.lemmas.List.{length-map}
use Rattle.std.specs.declared.alloc.Global.{Global}
use Rattle.mvt_rules.specs.PolygonFault.{IsPolygonOf}
use Rattle.mvt_rules.specs.Parts.ByPolygon.{IsValidPolygon, AreValidRings}
use Rattle.mvt_fault.specs.declared.profile.Profile.{Profile}
use Rattle.mvt_rules.specs.Parts.Rings.{part_of}
use Rattle.mvt_rules.specs.Polygon.{IsExterior, NoExterior, PolygonRings}
use Rattle.mvt_plane.specs.Position.{Position}
use Rattle.mvt_sweep.specs.Meeting.{NoMeeting, first_of, second_of}
use Rattle.mvt_rules.specs.Ring.{ArePolygonRings}
use Rattle.mvt_polygon.specs.InFeature.{IsMeetingIn}
use Rattle.mvt_polygon.specs.Nesting.{IsNestFault}
use Rattle.mvt_sweep.specs.Rings.{rings_of}
use Rattle.mvt_sweep.specs.declared.meeting.Meeting.{Meeting}
use Rattle.mvt_polygon.specs.declared.nesting.NestFault.{NestFault}
use Rattle.mvt_gate.proofs.PolygonFaults.{meeting_is_least}
use Rattle.mvt_gate.proofs.PolygonParts.{apart_in_whole, enclosed_in_whole, meeting_in_whole}
use Rattle.mvt_gate.proofs.PolygonWalk.{HasPassed, polygon_here, one_passed, all_passed}
use Rattle.mvt_gate.specs.Calls.Polygons.{IsFirstOfRings, AreValidBefore, meeting_fault}
use Rattle.mvt_gate.specs.declared.polygons.PolygonPlace.{PolygonPlace}

-- a meeting is the first fault of the feature
pub least_of_meeting : (profile : Profile) (parts : List (List Position)) (place : PolygonPlace) (its : PolygonRings) (found : Meeting) → its.after ≤ length parts → IsPolygonOf parts place.polygon its
    → AreValidBefore profile parts place.polygon → IsMeetingIn parts its found → IsFirstOfRings profile parts place.layer place.feature (meeting_fault place found)
least_of_meeting profile parts place its found within of_it valid is =
    meeting_is_least profile parts place.layer place.feature place.polygon (first_of found) (second_of found) found.point.x found.point.y found.point.w valid
    (meeting_in_whole profile parts place.polygon its found within of_it is)

-- where nothing is found, the polygon is valid by itself
pub valid_alone : (parts : List (List Position)) (its : PolygonRings) → its.after ≤ length parts → NoMeeting (part_of parts its) → ((fault : NestFault) → ¬ IsNestFault (part_of parts its) fault) → IsValidPolygon parts its
valid_alone parts its within none enclosed =
    let good = enclosed_in_whole parts its within enclosed in
    record { apart = apart_in_whole parts its none; enclosed = good.enclosed; side_by_side = good.side_by_side; beside = λ vertex other other_rings there inside. inside }

-- a valid polygon is passed
pub polygon_passed : (rings : List (Vec Position Global)) (polygon exterior after : ℕ) → ArePolygonRings (rings_of rings) → HasPassed (rings_of rings) polygon exterior → exterior < length rings → exterior < after → after ≤ length rings
    → NoExterior (rings_of rings) (suc exterior) after → (after ≡ length rings) ⊎ IsExterior (rings_of rings) after → IsValidPolygon (rings_of rings) (record { exterior = exterior; after = after })
    → HasPassed (rings_of rings) (polygon + 1) after
polygon_passed rings polygon exterior after sound passed within further fits holes ends valid =
    let count : length (rings_of rings) ≡ length rings = length-map rings (λ ring. ring.items) in
    let its_ends : (after ≡ length (rings_of rings)) ⊎ IsExterior (rings_of rings) after = elim ends [ inl last ↦ inl (omega arith) | inr is_exterior ↦ inr is_exterior ] in
    let of_it : IsPolygonOf (rings_of rings) polygon (record { exterior = exterior; after = after }) = polygon_here (rings_of rings) polygon exterior after sound passed (omega arith) further holes its_ends in
    let number : suc polygon ≡ polygon + 1 = omega arith in
    subst (λ (n : ℕ). HasPassed (rings_of rings) n after) number (one_passed (rings_of rings) polygon exterior after passed of_it (omega arith) valid)

-- after the last ring all polygons were passed
pub polygons_passed : (rings : List (Vec Position Global)) (polygon exterior : ℕ) → ArePolygonRings (rings_of rings) → HasPassed (rings_of rings) polygon exterior → length rings ≤ exterior → AreValidRings (rings_of rings)
polygons_passed rings polygon exterior sound passed following =
    let count : length (rings_of rings) ≡ length rings = length-map rings (λ ring. ring.items) in
    all_passed (rings_of rings) polygon exterior sound passed (omega arith)

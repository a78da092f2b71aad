-- What is found wrong with the first polygon of a feature that has a fault, where polygons are kept apart.
use Rattle.std.proofs.Common.{◌≡◌, ℕ, ◌<◌, ◌≤◌, ◌⊎◌, inl, inr, List, [], ◌∷◌, refl, arith}
use Rattle.std.proofs.lemmas.Bool.{cases_lt}
use Rattle.mvt_rules.specs.PolygonFault.{IsPolygonOf, IsVertexInPolygonBy}
use Rattle.mvt_rules.specs.Valid.{AreApartBy, AreValidRingsBy, IsValidPolygonBy}
use Rattle.mvt_fault.specs.declared.profile.Profile.TheVariants.{Feature}
use Rattle.mvt_fault.specs.Place.{ComesFirst}
use Rattle.mvt_rules.specs.Parts.Rings.{part_of}
use Rattle.mvt_rules.specs.Polygon.{PolygonRings, IsPolygon}
use Rattle.mvt_plane.specs.Position.{Position}
use Rattle.mvt_polygon.proofs.ApartFaults.{ends_within}
use Rattle.mvt_rules.specs.Ring.{ArePolygonRings}
use Rattle.mvt_polygon.specs.Apart.{IsApartFault, IsFirstApartFault}
use Rattle.mvt_feature.specs.Feature.{IsFeatureCause, IsClear, IsFirstFault, front_of, rings_in}
use Rattle.mvt_sweep.specs.Meeting.{IsMeetingOf, NoMeeting, first_of, second_of}
use Rattle.mvt_polygon.specs.declared.apart.ApartFault.{ApartFault}
use Rattle.mvt_feature.specs.declared.feature.FeatureCause.{FeatureCause}
use Rattle.mvt_feature.specs.declared.feature.FeatureCause.TheVariants.{Meeting, Nesting, Apart}
use Rattle.mvt_feature.specs.declared.feature.FeatureFault.{FeatureFault}
use Rattle.mvt_sweep.specs.declared.meeting.Meeting.{Meeting as MeetingOf}
use Rattle.mvt_gate.proofs.PolygonFaults.{HasGoodHoles, in_polygon_is_least, meeting_is_least}
use Rattle.mvt_gate.proofs.PolygonParts.{apart_in_whole, apart_of_front, enclosed_in_whole, first_hole_is_least, meeting_of_front}
use Rattle.mvt_gate.specs.Calls.Polygons.{AreValidBefore, IsFirstOfRings, apart_fault, cause_fault, meeting_fault}
use Rattle.mvt_gate.specs.declared.polygons.PolygonPlace.{PolygonPlace}

-- Polygons without a fault

-- where no edges of the front meet wrongly, those of the polygon are apart from it
apart_by_front : (parts : List (List Position)) (its : PolygonRings) → NoMeeting (part_of parts (front_of its)) → AreApartBy Feature parts its
apart_by_front parts its none = apart_of_front parts its (apart_in_whole parts (front_of its) none)

-- a polygon without a fault is valid
valid_of_clear : (parts : List (List Position)) (polygon : ℕ) (its : PolygonRings) → IsPolygon parts polygon its → IsClear parts polygon its → IsValidPolygonBy Feature parts its
valid_of_clear parts polygon its there clear =
    let good = enclosed_in_whole parts its (ends_within parts polygon its there) clear.placed.nested in
    record {
      apart = apart_by_front parts its clear.apart;
      enclosed = good.enclosed;
      side_by_side = good.side_by_side;
      beside = λ vertex other other_rings other_there inside. clear.placed.alone vertex other (record { polygon_rings = its; there = there; other_rings = other_rings; other_there = other_there; inside = inside });
    }

-- where no polygon has a fault, all of them are valid
pub valid_of_none : (parts : List (List Position)) → ArePolygonRings parts → ((polygon : ℕ) (its : PolygonRings) → IsPolygon parts polygon its → IsClear parts polygon its) → AreValidRingsBy Feature parts
valid_of_none parts sound clear = record {
  sound = sound;
  polygons = λ polygon its there. valid_of_clear parts polygon its there (clear polygon its there);
}

-- the polygons before the first one that has a fault are valid
valid_before : (parts : List (List Position)) (fault : FeatureFault) → IsFirstFault parts fault → AreValidBefore Feature parts fault.polygon
valid_before parts fault found earlier its less there = valid_of_clear parts earlier its there (found.before earlier its less there)

-- Polygons in others

-- a vertex that is inside another polygon is one of this polygon's exterior, by its rings
in_other : (parts : List (List Position)) (polygon vertex other : ℕ) → ArePolygonRings parts → IsApartFault parts polygon vertex other → IsVertexInPolygonBy Feature parts polygon vertex other
in_other parts polygon vertex other sound found = record {
  polygon_rings = found.polygon_rings;
  of = record { sound = sound; there = found.there };
  other_rings = found.other_rings;
  other_there = found.other_there;
  inside = found.inside;
}

-- and the other way round
of_other : (parts : List (List Position)) (polygon vertex other : ℕ) → IsVertexInPolygonBy Feature parts polygon vertex other → IsApartFault parts polygon vertex other
of_other parts polygon vertex other found = record {
  polygon_rings = found.polygon_rings;
  there = found.of.there;
  other_rings = found.other_rings;
  other_there = found.other_there;
  inside = found.inside;
}

-- by vertex, and then by the other polygon
by_vertex : (vertex other place another : ℕ) → (vertex < place) ⊎ ((vertex ≡ place) × (other ≤ another)) → ComesFirst (vertex ∷ 507 ∷ other ∷ 0 ∷ []) (place ∷ 507 ∷ another ∷ 0 ∷ [])
by_vertex vertex other place another (inl less) = inl less
by_vertex vertex other place another (inr same) = inr (
  same.0,
  inr (
    refl,
    elim (cases_lt other another) [
      | inl less ↦ inl less
      | inr more ↦ let most = same.1 in inr (omega arith, inr (refl, tt))
    ],
  ),
)

-- The first fault

-- a meeting of the front is the first fault of the feature
least_of_front : (parts : List (List Position)) (place : PolygonPlace) (its : PolygonRings) (found : MeetingOf) → IsPolygonOf parts place.polygon its → AreValidBefore Feature parts place.polygon
    → IsMeetingOf (part_of parts (front_of its)) found → IsFirstOfRings Feature parts place.layer place.feature (meeting_fault place found)
least_of_front parts place its found of_it valid meets =
    meeting_is_least Feature parts place.layer place.feature place.polygon (first_of found) (second_of found) found.point.x found.point.y found.point.w valid
    (meeting_of_front parts place.polygon its found (ends_within parts place.polygon its of_it.there) of_it valid meets)

-- so is the first vertex that is inside another polygon, where the polygon has no other fault
least_of_apart : (parts : List (List Position)) (place : PolygonPlace) (its : PolygonRings) (found : ApartFault) → IsPolygonOf parts place.polygon its → AreValidBefore Feature parts place.polygon → AreApartBy Feature parts its
    → HasGoodHoles parts its → IsFirstApartFault parts place.polygon found → IsFirstOfRings Feature parts place.layer place.feature (apart_fault place found)
least_of_apart parts place its found of_it valid apart good least =
    in_polygon_is_least Feature parts place.layer place.feature place.polygon found.vertex found.other its of_it valid apart good
    (in_other parts place.polygon found.vertex found.other of_it.sound least.holds)
    (λ vertex other wrong. by_vertex found.vertex found.other vertex other (least.first vertex other (of_other parts place.polygon vertex other wrong)))

-- what is wrong with the first polygon that has a fault is the first fault
least_of_cause : (parts : List (List Position)) (place : PolygonPlace) (its : PolygonRings) (cause : FeatureCause) → IsPolygonOf parts place.polygon its → AreValidBefore Feature parts place.polygon
    → IsFeatureCause parts place.polygon its cause → IsFirstOfRings Feature parts place.layer place.feature (cause_fault place cause)
least_of_cause parts place its (Meeting found) of_it valid is = least_of_front parts place its found of_it valid is
least_of_cause parts place its (Nesting fault) of_it valid is =
    first_hole_is_least Feature parts place its fault (ends_within parts place.polygon its of_it.there) of_it valid (apart_by_front parts its is.0) is.1
least_of_cause parts place its (Apart found) of_it valid is =
    least_of_apart parts place its found of_it valid (apart_by_front parts its is.0)
    (enclosed_in_whole parts its (ends_within parts place.polygon its of_it.there) is.1) is.2

-- the place of the polygon that has a fault
abbrev pub place_in : ℕ → ℕ → FeatureFault → PolygonPlace
place_in layer feature fault = record { layer = layer; feature = feature; polygon = fault.polygon }

-- so of the fault that is found
pub least_of_found : (parts : List (List Position)) (layer feature : ℕ) (fault : FeatureFault) → ArePolygonRings parts → IsFirstFault parts fault → IsFirstOfRings Feature parts layer feature (cause_fault (place_in layer feature fault) fault.cause)
least_of_found parts layer feature fault sound found =
    least_of_cause parts (place_in layer feature fault) (rings_in fault) fault.cause (record { sound = sound; there = found.there }) (valid_before parts fault found) found.is

-- What either search finds in a feature whose polygons are kept apart.
use Rattle.std.proofs.Common.{ℕ, inl, inr, List, [], ◌∷◌, take, Some, None}
use Rattle.mvt_rules.specs.Parts.Geometry.{IsFaultOfGeometryBy, command, ring, meeting, outside, hole_in_hole, in_polygon}
use Rattle.mvt_rules.specs.Polygon.{PolygonRings}
use Rattle.mvt_rules.specs.PolygonFault.{IsPolygonOf}
use Rattle.mvt_rules.specs.Valid.{AreValidRingsBy}
use Rattle.mvt_fault.proofs.Places.{ComesFirst-reflexive}
use Rattle.mvt_fault.specs.Place.{ComesFirst, place_of}
use Rattle.mvt_fault.specs.declared.fault.Fault.{Fault}
use Rattle.mvt_fault.specs.declared.profile.Profile.{Profile}
use Rattle.mvt_fault.specs.declared.profile.Profile.TheVariants.{Feature}
use Rattle.mvt_rules.specs.Ring.{ArePolygonRings}
use Rattle.mvt_plane.specs.Position.{Position}
use Rattle.mvt_feature.specs.Feature.{rings_in}
use Rattle.mvt_polygon.proofs.ApartFaults.{ends_within}
use Rattle.mvt_feature.specs.QuickFeature.{IsMeetingCause}
use Rattle.mvt_feature.specs.declared.feature.FeatureCause.{FeatureCause}
use Rattle.mvt_feature.specs.declared.feature.FeatureCause.TheVariants.{Meeting, Nesting, Apart}
use Rattle.mvt_feature.specs.declared.feature.FeatureFault.{FeatureFault}
use Rattle.mvt_tile.specs.FreeFaults.{of_least, of_free}
use Rattle.mvt_rules.specs.Tile.{FeatureRecord}
use Rattle.mvt_gate.proofs.FeatureFaults.{least_of_found, place_in, valid_of_none}
use Rattle.mvt_sweep.specs.Meeting.{first_of, second_of}
use Rattle.mvt_gate.proofs.PolygonParts.{meeting_of_its_edge}
use Rattle.mvt_gate.specs.Calls.Polygons.{IsFeatureAnswerFor, cause_fault}
use Rattle.mvt_gate.specs.Quick.{IsFirstOfRingsFor}
use Rattle.mvt_gate.specs.declared.polygons.PolygonPlace.{PolygonPlace}
use Rattle.mvt_gate.specs.declared.quick.Search.{Search}
use Rattle.mvt_gate.specs.declared.quick.Search.TheVariants.{Least, Quick}

-- faults of one feature's geometry have places that begin alike
begins_alike : (profile : Profile) (it : FeatureRecord) (layer feature : ℕ) (fault : Fault) → IsFaultOfGeometryBy profile it layer feature fault → ComesFirst (2 ∷ layer ∷ feature ∷ []) (take 3 (place_of fault))
begins_alike profile it layer feature fault (command code index bad) = ComesFirst-reflexive (2 ∷ layer ∷ feature ∷ [])
begins_alike profile it layer feature fault (ring code number of) = ComesFirst-reflexive (2 ∷ layer ∷ feature ∷ [])
begins_alike profile it layer feature fault (meeting number first second x y w of) = ComesFirst-reflexive (2 ∷ layer ∷ feature ∷ [])
begins_alike profile it layer feature fault (outside number hole vertex of) = ComesFirst-reflexive (2 ∷ layer ∷ feature ∷ [])
begins_alike profile it layer feature fault (hole_in_hole number hole vertex other of) = ComesFirst-reflexive (2 ∷ layer ∷ feature ∷ [])
begins_alike profile it layer feature fault (in_polygon number vertex other of) = ComesFirst-reflexive (2 ∷ layer ∷ feature ∷ [])

-- a meeting of any polygon may be named
meeting_is_free : (parts : List (List Position)) (place : PolygonPlace) (its : PolygonRings) (cause : FeatureCause) → IsPolygonOf parts place.polygon its → IsMeetingCause parts its cause → IsFirstOfRingsFor Quick Feature parts place.layer place.feature (cause_fault place cause)
meeting_is_free parts place its (Meeting found) of_it is = λ it has.
    of_free tt
    (meeting place.polygon (first_of found) (second_of found) found.point.x found.point.y found.point.w
    (parts, has, meeting_of_its_edge parts place.polygon its found (ends_within parts place.polygon its of_it.there) of_it is.1 is.0))
    (λ other broken. begins_alike Feature it place.layer place.feature other broken)
meeting_is_free parts place its (Nesting fault) of_it is = absurd is
meeting_is_free parts place its (Apart found) of_it is = absurd is

-- the fault that is found is the first of its feature, or such a meeting
pub least_for : (search : Search) (parts : List (List Position)) (layer feature : ℕ) (fault : FeatureFault) → ArePolygonRings parts → IsFeatureAnswerFor search parts (Some fault)
    → IsFirstOfRingsFor search Feature parts layer feature (cause_fault (place_in layer feature fault) fault.cause)
least_for Least parts layer feature fault sound answer = λ it has. of_least (least_of_found parts layer feature fault sound answer it has)
least_for Quick parts layer feature fault sound (inl first) = λ it has. of_least (least_of_found parts layer feature fault sound first it has)
least_for Quick parts layer feature fault sound (inr meets) = meeting_is_free parts (place_in layer feature fault) (rings_in fault) fault.cause (record { sound = sound; there = meets.there }) meets.is

-- where none is found, all polygons are valid
pub valid_for : (search : Search) (parts : List (List Position)) → ArePolygonRings parts → IsFeatureAnswerFor search parts None → AreValidRingsBy Feature parts
valid_for Least parts sound clear = valid_of_none parts sound clear
valid_for Quick parts sound clear = valid_of_none parts sound clear

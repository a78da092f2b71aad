-- What is found in the rings of one polygon, said of all rings of its feature.
use Rattle.std.proofs.Common.{◌≡◌, ℕ, ◌+◌, ◌-◌, ◌<◌, ◌≤◌, inl, inr, List, [], ◌∷◌, length, sym, ap, subst, arith}
use Rattle.std.proofs.lemmas.Bool.{cases_lt}
use Rattle.std.proofs.lemmas.Option.{slice_get_within}
use Rattle.mvt_rules.specs.PolygonFault.{IsPolygonOf, IsMeetingBy}
use Rattle.mvt_rules.specs.Profiles.{IsKeptApart}
use Rattle.mvt_rules.specs.Valid.{AreApartBy}
use Rattle.mvt_fault.specs.declared.profile.Profile.{Profile}
use Rattle.mvt_fault.specs.declared.profile.Profile.TheVariants.{Polygon, Feature}
use Rattle.mvt_fault.specs.Place.{ComesFirst}
use Rattle.mvt_fault.specs.declared.ring.RingEdge.{RingEdge}
use Rattle.mvt_rules.proofs.Rings.PolygonNumbers.{polygon_of_ring}
use Rattle.mvt_rules.proofs.Rings.PartsOfRings.{number_in_part, meeting_in_part, outside_in_part, in_hole_in_part}
use Rattle.mvt_rules.specs.Meeting.{MeetsWrongly}
use Rattle.mvt_rules.specs.Nesting.{IsOutside, IsInHole}
use Rattle.mvt_rules.specs.Parts.Rings.{part_of, in_whole}
use Rattle.mvt_rules.specs.Polygon.{PolygonRings, IsRingOf}
use Rattle.mvt_plane.specs.Position.{Position}
use Rattle.mvt_plane.specs.Geometry.RationalPoint.{RationalPoint}
use Rattle.mvt_rules.proofs.Validity.UnshownMeetings.{rings_in_order}
use Rattle.mvt_feature.proofs.Features.FaultsByRings.{in_hole_of_part, in_part, outside_of_part, whole_part}
use Rattle.mvt_feature.proofs.Features.RingCopies.{count_of_front, front_copies, meeting_there, part_copies, ring_within}
use Rattle.mvt_polygon.proofs.PolygonSlices.{ring_of_whole}
use Rattle.mvt_polygon.specs.InFeature.{IsFirstNestFaultIn, IsMeetingIn, nest_moved}
use Rattle.mvt_feature.specs.Feature.{front_of}
use Rattle.mvt_sweep.specs.Meeting.{first_of, second_of, IsMeetingOf}
use Rattle.mvt_polygon.specs.Nesting.{IsNestFault, outside, in_hole, IsFirstNestFault}
use Rattle.mvt_sweep.specs.declared.meeting.Meeting.{Meeting}
use Rattle.mvt_polygon.specs.declared.nesting.NestFault.{NestFault}
use Rattle.mvt_polygon.specs.declared.nesting.NestFault.TheVariants.{Outside, InHole}
use Rattle.mvt_gate.proofs.PolygonFaults.{HasGoodHoles, IsFirstHole, in_hole_is_least, outside_is_least}
use Rattle.mvt_gate.proofs.PolygonWalk.{begins_in_turn}
use Rattle.mvt_gate.specs.Calls.Polygons.{AreValidBefore, IsFirstOfRings, hole_fault}
use Rattle.mvt_gate.specs.declared.polygons.PolygonPlace.{PolygonPlace}

-- Meetings

-- a meeting in the feature, of which the second edge is the polygon's and the first is to be kept apart from it
meeting_of : (profile : Profile) (parts : List (List Position)) (polygon : ℕ) (its : PolygonRings) (found : Meeting) → IsPolygonOf parts polygon its → IsKeptApart profile its found.first_ring → IsRingOf its found.second_ring
    → IsMeetingOf parts found → IsMeetingBy profile parts polygon (first_of found) (second_of found) found.point
meeting_of profile parts polygon its found of_it first_in second_in meets = record {
  polygon_rings = its;
  of = of_it;
  first_in = first_in;
  second_in = second_in;
  in_order = meets.in_order;
  bounded = meets.bounded;
  meets = meets.meets;
}

-- a ring of the polygon is kept apart from it, by each profile
kept_of_own : (profile : Profile) (its : PolygonRings) (ring : ℕ) → IsRingOf its ring → IsKeptApart profile its ring
kept_of_own Polygon its ring of_it = of_it
kept_of_own Feature its ring of_it = of_it.before

-- a meeting of two edges of the polygon
pub meeting_in_whole : (profile : Profile) (parts : List (List Position)) (polygon : ℕ) (its : PolygonRings) (found : Meeting) → its.after ≤ length parts → IsPolygonOf parts polygon its → IsMeetingIn parts its found
    → IsMeetingBy profile parts polygon (first_of found) (second_of found) found.point
meeting_in_whole profile parts polygon its found within of_it is =
    let first_below : is.alone.first_ring < its.after - its.exterior = (ring_of_whole parts its is.alone.first_ring is.is.one_there.ring within is.is.one_there.there).0 in
    let second_below : is.alone.second_ring < its.after - its.exterior = (ring_of_whole parts its is.alone.second_ring is.is.other_there.ring within is.is.other_there.there).0 in
    let first : found.first_ring ≡ its.exterior + is.alone.first_ring = ap (λ (meeting : Meeting). meeting.first_ring) is.moved in
    let second : found.second_ring ≡ its.exterior + is.alone.second_ring = ap (λ (meeting : Meeting). meeting.second_ring) is.moved in
    meeting_of profile parts polygon its found of_it (kept_of_own profile its found.first_ring (record { from = omega arith; before = omega arith })) (record { from = omega arith; before = omega arith })
    (subst (λ (meeting : Meeting). IsMeetingOf parts meeting) (sym is.moved)
    (meeting_there (part_of parts its) parts (λ (ring : ℕ). its.exterior + ring) (part_copies parts its within) is.alone is.is))

-- The rings up to a polygon's last one

-- a meeting of those is one in the feature
front_meeting : (parts : List (List Position)) (its : PolygonRings) (found : Meeting) → its.after ≤ length parts → IsMeetingOf (part_of parts (front_of its)) found → IsMeetingOf parts found
front_meeting parts its found within meets = meeting_there (part_of parts (front_of its)) parts (λ (ring : ℕ). ring) (front_copies parts its within) found meets

-- its edges are before the ring after the last one
front_edges : (parts : List (List Position)) (its : PolygonRings) (found : Meeting) → its.after ≤ length parts → IsMeetingOf (part_of parts (front_of its)) found → (found.first_ring < its.after) × (found.second_ring < its.after)
front_edges parts its found within meets =
    let count = count_of_front parts its within in
    let copies = front_copies parts its within in
    let first : found.first_ring < length (part_of parts (front_of its)) = ring_within (part_of parts (front_of its)) parts (λ (ring : ℕ). ring) copies (first_of found) meets.one meets.one_there in
    let second : found.second_ring < length (part_of parts (front_of its)) = ring_within (part_of parts (front_of its)) parts (λ (ring : ℕ). ring) copies (second_of found) meets.other meets.other_there in
    (omega arith, omega arith)

-- where the polygons before this one are valid in their feature, the second edge of a meeting in the front is the polygon's
second_in_front : (parts : List (List Position)) (polygon : ℕ) (its : PolygonRings) (found : Meeting) → IsPolygonOf parts polygon its → AreValidBefore Feature parts polygon → found.second_ring < its.after → IsMeetingOf parts found
    → IsRingOf its found.second_ring
second_in_front parts polygon its found of_it valid ends meets = elim (cases_lt found.second_ring its.exterior) [
  | inl before ↦
      let there = meets.other_there in
      let home = polygon_of_ring parts found.second_ring of_it.sound (slice_get_within parts found.second_ring there.ring there.there) in
      let from = home.3.from in
      let home_ends = home.3.before in
      let number : home.0 < polygon = begins_in_turn parts home.0 polygon home.1.exterior its.exterior home.2.begins of_it.there.begins (omega arith) in
      let in_turn : found.first_ring ≤ found.second_ring = rings_in_order (first_of found) (second_of found) meets.in_order in
      absurd ((valid home.0 home.1 number home.2).apart (first_of found) (second_of found) found.point (omega arith) home.3 meets.meets)
  | inr from ↦ record { from = from; before = ends }
]

-- so it is a meeting of the polygon, in its feature
pub meeting_of_front : (parts : List (List Position)) (polygon : ℕ) (its : PolygonRings) (found : Meeting) → its.after ≤ length parts → IsPolygonOf parts polygon its → AreValidBefore Feature parts polygon → IsMeetingOf (part_of parts (front_of its)) found
    → IsMeetingBy Feature parts polygon (first_of found) (second_of found) found.point
meeting_of_front parts polygon its found within of_it valid meets =
    let edges = front_edges parts its found within meets in
    let whole = front_meeting parts its found within meets in
    meeting_of Feature parts polygon its found of_it edges.0 (second_in_front parts polygon its found of_it valid edges.1 whole) whole

-- also where its second edge is known to be the polygon's
pub meeting_of_its_edge : (parts : List (List Position)) (polygon : ℕ) (its : PolygonRings) (found : Meeting) → its.after ≤ length parts → IsPolygonOf parts polygon its → IsRingOf its found.second_ring → IsMeetingOf (part_of parts (front_of its)) found
    → IsMeetingBy Feature parts polygon (first_of found) (second_of found) found.point
meeting_of_its_edge parts polygon its found within of_it second_in meets =
    meeting_of Feature parts polygon its found of_it (front_edges parts its found within meets).0 second_in (front_meeting parts its found within meets)

-- where no edges of the front meet wrongly, the polygon's are apart from it
pub apart_of_front : (parts : List (List Position)) (its : PolygonRings) → AreApartBy Polygon parts (front_of its) → AreApartBy Feature parts its
apart_of_front parts its apart first second point before second_in =
    apart first second point (record { from = omega arith; before = before }) (record { from = omega arith; before = second_in.before })

-- The polygon alone

-- an edge of the polygon, by its numbers in the part
edge_in_part : (its : PolygonRings) (number : RingEdge) → IsRingOf its number.ring → (own : RingEdge) × (own.ring < its.after - its.exterior) × (number ≡ in_whole its.exterior own)
edge_in_part its number of_it =
    let own = number_in_part its number.ring of_it in
    (record { ring = own.0; edge = number.edge }, own.1, ap (λ (ring : ℕ). record { ring = ring; edge = number.edge }) own.2)

-- where no edges of the part meet wrongly, none of the polygon do
pub apart_in_whole : (parts : List (List Position)) (its : PolygonRings) → ((first second : RingEdge) (point : RationalPoint) → ¬ MeetsWrongly (part_of parts its) first second point) → AreApartBy Polygon parts its
apart_in_whole parts its none first second point first_in second_in meets =
    let own = edge_in_part its first first_in in
    let other = edge_in_part its second second_in in
    none own.0 other.0 point ((meeting_in_part parts its own.0 other.0 point own.1 other.1).1
    (subst (λ (number : RingEdge). MeetsWrongly parts (in_whole its.exterior own.0) number point) other.2
    (subst (λ (number : RingEdge). MeetsWrongly parts number second point) own.2 meets)))

-- Holes

-- a vertex outside in the part, by its numbers in the feature
pub outside_in_whole : (parts : List (List Position)) (its : PolygonRings) (ring vertex : ℕ) → its.after ≤ length parts → IsNestFault (part_of parts its) (Outside ring vertex) → IsOutside parts its (its.exterior + ring) vertex
outside_in_whole parts its _ _ within (outside ring vertex wrong) =
    (outside_in_part parts its ring vertex).0 (subst (λ (it : PolygonRings). IsOutside (part_of parts its) it ring vertex) (whole_part parts its within) wrong)

-- and one inside another hole
pub in_hole_in_whole : (parts : List (List Position)) (its : PolygonRings) (ring vertex other : ℕ) → its.after ≤ length parts → IsNestFault (part_of parts its) (InHole ring vertex other) → IsInHole parts its (its.exterior + ring) vertex (its.exterior + other)
in_hole_in_whole parts its _ _ _ within (in_hole ring vertex other wrong) =
    (in_hole_in_part parts its ring vertex other).0 (subst (λ (it : PolygonRings). IsInHole (part_of parts its) it ring vertex other) (whole_part parts its within) wrong)

-- where the part has no such vertex, the polygon has none
pub enclosed_in_whole : (parts : List (List Position)) (its : PolygonRings) → its.after ≤ length parts → ((fault : NestFault) → ¬ IsNestFault (part_of parts its) fault) → HasGoodHoles parts its
enclosed_in_whole parts its within none = record {
  enclosed = λ ring vertex wrong. none (Outside (ring - its.exterior) vertex) (outside_of_part parts its ring vertex within wrong);
  side_by_side = λ ring vertex other wrong. none (InHole (ring - its.exterior) vertex (other - its.exterior)) (in_hole_of_part parts its ring vertex other within wrong);
}

-- the last number of a place
last_of_place : (other another last its_last : ℕ) → (other ≤ another → last ≤ its_last) → ComesFirst (other ∷ []) (another ∷ []) → ComesFirst (last ∷ []) (its_last ∷ [])
last_of_place other another last its_last most first = elim (cases_lt last its_last) [
  | inl less ↦ inl less
  | inr above ↦
      let before : other ≤ another = elim first [ inl less ↦ omega arith | inr same ↦ let e = same.0 in omega arith ] in
      let at_most : last ≤ its_last = most before in
      inr (omega arith, tt)
]

-- with a code before it
code_and_last : (code other its_code another last its_last : ℕ) → (code ≡ its_code → other ≤ another → last ≤ its_last) → ComesFirst (code ∷ other ∷ []) (its_code ∷ another ∷ [])
    → ComesFirst (code ∷ last ∷ []) (its_code ∷ its_last ∷ [])
code_and_last code other its_code another last its_last most (inl less) = inl less
code_and_last code other its_code another last its_last most (inr same) = inr (same.0, last_of_place other another last its_last (most same.0) same.1)

-- the order of places in the part is that in the whole
shifted : (from ring vertex code other number place its_code another last its_last : ℕ) → (code ≡ its_code → other ≤ another → last ≤ its_last) → ComesFirst (ring ∷ vertex ∷ code ∷ other ∷ []) (number ∷ place ∷ its_code ∷ another ∷ [])
    → ComesFirst ((from + ring) ∷ vertex ∷ code ∷ last ∷ []) ((from + number) ∷ place ∷ its_code ∷ its_last ∷ [])
shifted from ring vertex code other number place its_code another last its_last most (inl less) = inl (omega arith)
shifted from ring vertex code other number place its_code another last its_last most (inr same) = inr (
  ap (λ n. from + n) same.0,
  elim same.1 [
    | inl less ↦ inl less
    | inr at ↦ inr (at.0, code_and_last code other its_code another last its_last most at.1)
  ],
)

-- the first vertex outside is the first of the polygon
pub outside_is_first : (parts : List (List Position)) (its : PolygonRings) (ring vertex : ℕ) → its.after ≤ length parts → IsFirstNestFault (part_of parts its) (Outside ring vertex) → IsFirstHole parts its ((its.exterior + ring) ∷ vertex ∷ 505 ∷ 0 ∷ [])
outside_is_first parts its ring vertex within least = record {
  outside = λ hole place wrong.
      let own = hole - its.exterior in
      let following = least.first (Outside own place) (outside_of_part parts its hole place within wrong) in
      subst (λ (n : ℕ). ComesFirst ((its.exterior + ring) ∷ vertex ∷ 505 ∷ 0 ∷ []) (n ∷ place ∷ 505 ∷ 0 ∷ [])) (sym (in_part its hole wrong.hole))
      (shifted its.exterior ring vertex 505 0 own place 505 0 0 0 (λ codes most. omega arith) following);
  in_hole = λ hole place other wrong.
      let own = hole - its.exterior in
      let own_other = other - its.exterior in
      let following = least.first (InHole own place own_other) (in_hole_of_part parts its hole place other within wrong) in
      subst (λ (n : ℕ). ComesFirst ((its.exterior + ring) ∷ vertex ∷ 505 ∷ 0 ∷ []) (n ∷ place ∷ 506 ∷ other ∷ [])) (sym (in_part its hole wrong.hole))
      (shifted its.exterior ring vertex 505 0 own place 506 own_other 0 other (λ codes most. absurd (omega arith)) following);
}

-- so is the first inside another hole
pub in_hole_is_first : (parts : List (List Position)) (its : PolygonRings) (ring vertex another : ℕ) → its.after ≤ length parts → IsFirstNestFault (part_of parts its) (InHole ring vertex another)
    → IsFirstHole parts its ((its.exterior + ring) ∷ vertex ∷ 506 ∷ (its.exterior + another) ∷ [])
in_hole_is_first parts its ring vertex another within least = record {
  outside = λ hole place wrong.
      let own = hole - its.exterior in
      let following = least.first (Outside own place) (outside_of_part parts its hole place within wrong) in
      subst (λ (n : ℕ). ComesFirst ((its.exterior + ring) ∷ vertex ∷ 506 ∷ (its.exterior + another) ∷ []) (n ∷ place ∷ 505 ∷ 0 ∷ [])) (sym (in_part its hole wrong.hole))
      (shifted its.exterior ring vertex 506 another own place 505 0 (its.exterior + another) 0 (λ codes most. absurd (omega arith)) following);
  in_hole = λ hole place other wrong.
      let own = hole - its.exterior in
      let own_other = other - its.exterior in
      let following = least.first (InHole own place own_other) (in_hole_of_part parts its hole place other within wrong) in
      let last : other ≡ its.exterior + own_other = in_part its other wrong.other_hole in
      subst (λ (n : ℕ). ComesFirst ((its.exterior + ring) ∷ vertex ∷ 506 ∷ (its.exterior + another) ∷ []) (n ∷ place ∷ 506 ∷ other ∷ [])) (sym (in_part its hole wrong.hole))
      (shifted its.exterior ring vertex 506 another own place 506 own_other (its.exterior + another) other (λ codes most. omega arith) following);
}

-- with the numbers of the feature it is the first fault, where no edges meet wrongly
first_moved : (profile : Profile) (parts : List (List Position)) (place : PolygonPlace) (its : PolygonRings) (alone : NestFault) → its.after ≤ length parts → IsPolygonOf parts place.polygon its
    → AreValidBefore profile parts place.polygon → AreApartBy profile parts its → IsFirstNestFault (part_of parts its) alone
    → IsFirstOfRings profile parts place.layer place.feature (hole_fault place (nest_moved (λ (ring : ℕ). its.exterior + ring) alone))
first_moved profile parts place its (Outside ring vertex) within of_it valid apart least =
    outside_is_least profile parts place.layer place.feature place.polygon (its.exterior + ring) vertex its of_it valid apart
    (outside_in_whole parts its ring vertex within least.holds) (outside_is_first parts its ring vertex within least)
first_moved profile parts place its (InHole ring vertex other) within of_it valid apart least =
    in_hole_is_least profile parts place.layer place.feature place.polygon (its.exterior + ring) vertex (its.exterior + other) its of_it valid apart
    (in_hole_in_whole parts its ring vertex other within least.holds) (in_hole_is_first parts its ring vertex other within least)

-- so is what was found
pub first_hole_is_least : (profile : Profile) (parts : List (List Position)) (place : PolygonPlace) (its : PolygonRings) (fault : NestFault) → its.after ≤ length parts → IsPolygonOf parts place.polygon its
    → AreValidBefore profile parts place.polygon → AreApartBy profile parts its → IsFirstNestFaultIn parts its fault → IsFirstOfRings profile parts place.layer place.feature (hole_fault place fault)
first_hole_is_least profile parts place its fault within of_it valid apart is =
    subst (λ (wrong : NestFault). IsFirstOfRings profile parts place.layer place.feature (hole_fault place wrong)) (sym is.moved) (first_moved profile parts place its is.alone within of_it valid apart is.is)

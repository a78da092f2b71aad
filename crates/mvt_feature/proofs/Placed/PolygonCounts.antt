-- How many polygons a ring is within: by the ring directly around it, and what that says of a polygon's exterior.
use Rattle.std.proofs.Common.{◌≡◌, ◌≢◌, ◌⊎◌, ◌↔◌, inl, inr, ℕ, zero, suc, ◌+◌, ◌<◌, ◌≤◌, Bool, true, List, length, slice_get, Option, Some, None, sym, ◌∙◌, ap, subst, arith}
use Rattle.std.specs.List.{count_by}
use Rattle.std.proofs.lemmas.Bool.{cases_eq, cases_lt}
use Rattle.std.proofs.lemmas.List.Sums.{count_by-le-length}
use Rattle.std.proofs.lemmas.Option.{same_Some}
use Rattle.mvt_rules.specs.Polygon.{PolygonRings, IsPolygon, IsRingOf, IsHoleOf}
use Rattle.mvt_plane.specs.Position.{Position}
use Rattle.mvt_plane.proofs.Insides.EdgeParity.{test, test_decides, same_test, failed_test}
use Rattle.mvt_rules.proofs.Rings.SamePolygons.{one_polygon}
use Rattle.mvt_polygon.specs.Apart.{IsApartFault}
use Rattle.mvt_sweep.specs.Meeting.{NoMeeting}
use Rattle.mvt_polygon.specs.Polygons.{ArePolygons}
use Rattle.mvt_feature.specs.Calls.Passings.{IsPassing, IsNextCount}
use Rattle.mvt_feature.specs.Calls.PolygonsAround.{AreNotedBy, IsWithinPolygon, EntersPolygon, LeavesPolygon}
use Rattle.mvt_sweep.specs.RingsAround.{IsAround}
use Rattle.mvt_feature.specs.declared.feature.passing.Passing.{Passing}
use Rattle.mvt_feature.specs.declared.feature.passing.Passing.TheVariants.{Enters, Leaves, Neither}
use Rattle.mvt_feature.proofs.Placed.AroundEachOther.{nearest_around, around_nearest, nearest_or_around}
use Rattle.mvt_feature.proofs.Placed.AroundVertices.{around_or_not}
use Rattle.mvt_feature.proofs.Features.FaultsByRings.{exterior_apart, apart_from_exterior, apart_from_hole, fault_within, within_fault}
use Rattle.mvt_feature.proofs.Placed.RightNotes.{exterior_or_hole}
use Rattle.mvt_sweep.proofs.Vertices.TestCounts.{same_count, one_more, none_counted, some_counted, counted}

-- ---- a ring is within a polygon or isn't

-- this hole is around the ring or isn't
hole_around_or_not : (rings : List (List Position)) (its : PolygonRings) (ring hole : ℕ) → (IsHoleOf its hole × IsAround rings hole ring) ⊎ (IsHoleOf its hole → ¬ IsAround rings hole ring)
hole_around_or_not rings its ring hole = elim (cases_lt its.exterior hole) [
  | inr before ↦ inr (λ is. let following = is.following in absurd (omega arith))
  | inl following ↦ elim (cases_lt hole its.after) [
    | inr past ↦ inr (λ is. let before = is.before in absurd (omega arith))
    | inl before ↦ elim (around_or_not rings hole ring) [
      | yes around ↦ inl (record { following = following; before = before }, around)
      | no not ↦ inr (λ is. not)
    ]
  ]
]

-- one of the polygon's holes is
abbrev HasHoleAround : List (List Position) → PolygonRings → ℕ → Type 0
HasHoleAround rings its ring = (hole : ℕ) × IsHoleOf its hole × IsAround rings hole ring

-- none is before this one
abbrev HasNoHoleAround : List (List Position) → PolygonRings → ℕ → ℕ → Type 0
HasNoHoleAround rings its ring to = (hole : ℕ) → hole < to → IsHoleOf its hole → ¬ IsAround rings hole ring

-- with this one
none_before_next : (rings : List (List Position)) (its : PolygonRings) (ring to : ℕ) → HasNoHoleAround rings its ring to → (IsHoleOf its to → ¬ IsAround rings to ring)
    → HasNoHoleAround rings its ring (suc to)
none_before_next rings its ring to none not hole less is around = elim (cases_lt hole to) [
  | inl earlier ↦ none hole earlier is around
  | inr later ↦ let same : hole ≡ to = omega arith in not (subst (IsHoleOf its) same is) (subst (λ (number : ℕ). IsAround rings number ring) same around)
]

-- one is or none is
hole_or_none : (rings : List (List Position)) (its : PolygonRings) (ring to : ℕ) → HasHoleAround rings its ring ⊎ HasNoHoleAround rings its ring to
hole_or_none rings its ring zero = inr (λ hole less. absurd (omega arith))
hole_or_none rings its ring (suc to) = elim (hole_or_none rings its ring to) [
  | inl found ↦ inl found
  | inr none ↦ elim (hole_around_or_not rings its ring to) [
    | inl both ↦ inl (to, both.0, both.1)
    | inr not ↦ inr (none_before_next rings its ring to none not)
  ]
]

-- so the ring is within the polygon or isn't
pub within_or_not : (rings : List (List Position)) (its : PolygonRings) (ring : ℕ) → Dec (IsWithinPolygon rings its ring)
within_or_not rings its ring = elim (around_or_not rings its.exterior ring) [
  | no not ↦ no (λ within. not within.exterior)
  | yes around ↦ elim (hole_or_none rings its ring its.after) [
    | inl found ↦ no (λ within. within.in_no_hole found.0 found.1 found.2)
    | inr none ↦ yes (record { exterior = around; in_no_hole = λ hole is. none hole is.before is })
  ]
]

-- ---- the count

-- the rings of a polygon as the list has them
abbrev pub listed_rings : ℕ × ℕ → PolygonRings
listed_rings listed = record { exterior = listed.0; after = listed.1 }

-- whether the ring is within a polygon of the list
abbrev pub is_within : List (List Position) → ℕ → ℕ × ℕ → Bool
is_within rings ring listed = test (within_or_not rings (listed_rings listed) ring)

-- how many polygons of the list it is within
unfoldable pub around_count : List (List Position) → List (ℕ × ℕ) → ℕ → ℕ
around_count rings polygons ring = count_by (is_within rings ring) polygons

-- no more than there are
pub around_most : (rings : List (List Position)) (polygons : List (ℕ × ℕ)) (ring : ℕ) → around_count rings polygons ring ≤ length polygons
unfolding around_count
around_most rings polygons ring = count_by-le-length (is_within rings ring) polygons

-- a ring with none around it is within none
pub outermost_count : (rings : List (List Position)) (polygons : List (ℕ × ℕ)) {nearest : ℕ → Option ℕ} {odd : ℕ → Bool} {come_to : List ℕ} → AreNotedBy rings nearest odd come_to
    → (ring : ℕ) → ring < length rings → nearest ring ≡ None → around_count rings polygons ring ≡ 0
unfolding around_count
outermost_count rings polygons noted ring within none = none_counted (is_within rings ring) polygons
    (λ place it there. failed_test (within_or_not rings (listed_rings it) ring) (λ inside. noted.alone ring within none it.0 inside.exterior))

-- ---- from the ring directly around one

-- where that isn't one of a polygon's rings, both are within the polygon or neither is
within_alike : (rings : List (List Position)) {nearest : ℕ → Option ℕ} {odd : ℕ → Bool} {come_to : List ℕ} → AreNotedBy rings nearest odd come_to → (other : ℕ) (its : PolygonRings)
    (ring near : ℕ) → ring < length rings → nearest ring ≡ Some near → IsPolygon rings other its → ¬ IsRingOf its near → IsWithinPolygon rings its ring ↔ IsWithinPolygon rings its near
within_alike rings noted other its ring near here is is_its not = (
  λ within. record {
    exterior = elim (nearest_or_around rings noted ring near its.exterior is within.exterior) [
      | inl same ↦ absurd (apart_from_exterior rings other its near is_its not same)
      | inr around ↦ around
    ];
    in_no_hole = λ hole is_hole around. within.in_no_hole hole is_hole (around_nearest rings noted ring near hole here is around);
  },
  λ within. record {
    exterior = around_nearest rings noted ring near its.exterior here is within.exterior;
    in_no_hole = λ hole is_hole around. elim (nearest_or_around rings noted ring near hole is around) [
      | inl same ↦ apart_from_hole its hole near is_hole not same
      | inr further ↦ within.in_no_hole hole is_hole further
    ];
  },
)

-- the exterior isn't within its own polygon
exterior_not_within : (rings : List (List Position)) (its : PolygonRings) (ring : ℕ) → its.exterior ≡ ring → ¬ IsWithinPolygon rings its ring
exterior_not_within rings its ring same within = within.exterior.different same

-- a ring directly within a hole isn't within its polygon
after_hole : (rings : List (List Position)) {nearest : ℕ → Option ℕ} {odd : ℕ → Bool} {come_to : List ℕ} → AreNotedBy rings nearest odd come_to → (its : PolygonRings) (ring near : ℕ)
    → ring < length rings → nearest ring ≡ Some near → IsHoleOf its near → ¬ IsWithinPolygon rings its ring
after_hole rings noted its ring near here is hole within = within.in_no_hole near hole (nearest_around rings noted ring near here is)

-- one directly within the exterior is, where no hole is around that
within_entered : (rings : List (List Position)) {nearest : ℕ → Option ℕ} {odd : ℕ → Bool} {come_to : List ℕ} → AreNotedBy rings nearest odd come_to → (its : PolygonRings) (ring near : ℕ)
    → ring < length rings → nearest ring ≡ Some near → EntersPolygon rings its near → IsWithinPolygon rings its ring
within_entered rings noted its ring near here is way = record {
  exterior = subst (λ (number : ℕ). IsAround rings number ring) (sym way.exterior) (nearest_around rings noted ring near here is);
  in_no_hole = λ hole is_hole around. elim (nearest_or_around rings noted ring near hole is around) [
    | inl same ↦ exterior_apart its hole is_hole (way.exterior ∙ sym same)
    | inr further ↦ way.in_no_hole hole is_hole further
  ];
}

-- and only there
enters_within : (rings : List (List Position)) {nearest : ℕ → Option ℕ} {odd : ℕ → Bool} {come_to : List ℕ} → AreNotedBy rings nearest odd come_to → (its : PolygonRings) (ring near : ℕ)
    → ring < length rings → nearest ring ≡ Some near → its.exterior ≡ near → IsWithinPolygon rings its ring → EntersPolygon rings its near
enters_within rings noted its ring near here is same within = record {
  exterior = same;
  in_no_hole = λ hole is_hole around. within.in_no_hole hole is_hole (around_nearest rings noted ring near hole here is around);
}

-- a hole with the exterior around it alone is within the polygon
within_left : (rings : List (List Position)) (its : PolygonRings) (near : ℕ) → LeavesPolygon rings its near → IsWithinPolygon rings its near
within_left rings its near way = record { exterior = way.enclosed; in_no_hole = way.alone }

-- where the way into the ring leads neither in nor out, neither it nor a ring directly within it is within the polygon
none_within : (rings : List (List Position)) {nearest : ℕ → Option ℕ} {odd : ℕ → Bool} {come_to : List ℕ} → AreNotedBy rings nearest odd come_to → (its : PolygonRings) (ring near : ℕ)
    → ring < length rings → nearest ring ≡ Some near → IsRingOf its near → IsPassing rings its near Neither → (¬ IsWithinPolygon rings its ring) × (¬ IsWithinPolygon rings its near)
none_within rings noted its ring near here is of_its way = elim (exterior_or_hole its near of_its) [
  | inl same ↦ (λ within. way.0 (enters_within rings noted its ring near here is same within), exterior_not_within rings its near same)
  | inr hole ↦ (
    after_hole rings noted its ring near here is hole,
    λ within. way.1 (record { hole = hole; enclosed = within.exterior; alone = within.in_no_hole }),
  )
]

-- ---- polygons of the list

-- any other polygon of the list doesn't have the ring
not_elsewhere : (rings : List (List Position)) (polygons : List (ℕ × ℕ)) (home place : ℕ) (its : PolygonRings) (it : ℕ × ℕ) (near : ℕ) → ArePolygons rings polygons → IsPolygon rings home its
    → IsRingOf its near → place ≢ home → slice_get polygons place ≡ Some it → ¬ IsRingOf (listed_rings it) near
not_elsewhere rings polygons home place its it near listed is_its of_its differ there of_it =
    differ (one_polygon rings near place home (listed_rings it) its (listed.only place it.0 it.1 there) of_it is_its of_its).0

-- so of any other both rings have one test
alike_elsewhere : (rings : List (List Position)) (polygons : List (ℕ × ℕ)) {nearest : ℕ → Option ℕ} {odd : ℕ → Bool} {come_to : List ℕ} → AreNotedBy rings nearest odd come_to
    → (ring near home : ℕ) (its : PolygonRings) → ring < length rings → nearest ring ≡ Some near → ArePolygons rings polygons → IsPolygon rings home its → IsRingOf its near
    → (place : ℕ) (it : ℕ × ℕ) → place ≢ home → slice_get polygons place ≡ Some it → is_within rings ring it ≡ is_within rings near it
alike_elsewhere rings polygons noted ring near home its here is listed is_its of_its place it differ there =
    let not = not_elsewhere rings polygons home place its it near listed is_its of_its differ there in
    let alike = within_alike rings noted place (listed_rings it) ring near here is (listed.only place it.0 it.1 there) not in
    same_test (within_or_not rings (listed_rings it) ring) (within_or_not rings (listed_rings it) near) alike.0 alike.1

-- a fact that holds has a test that holds
passed_test : {Fact : Type 0} (decided : Dec Fact) → Fact → test decided ≡ true
passed_test decided it = (test_decides decided).1 it

-- ---- the count of a ring directly within another

-- where the way into the other leads in, it is one more
entered_count : (rings : List (List Position)) (polygons : List (ℕ × ℕ)) {nearest : ℕ → Option ℕ} {odd : ℕ → Bool} {come_to : List ℕ} → AreNotedBy rings nearest odd come_to
    → ArePolygons rings polygons → (home : ℕ) (its : PolygonRings) (ring near : ℕ) → ring < length rings → nearest ring ≡ Some near → IsPolygon rings home its → IsRingOf its near
    → EntersPolygon rings its near → around_count rings polygons ring ≡ around_count rings polygons near + 1
unfolding around_count
entered_count rings polygons noted listed home its ring near here is is_its of_its way =
    one_more (is_within rings ring) (is_within rings near) polygons home (its.exterior, its.after) (listed.all home its is_its)
    (passed_test (within_or_not rings its ring) (within_entered rings noted its ring near here is way))
    (failed_test (within_or_not rings its near) (exterior_not_within rings its near way.exterior))
    (alike_elsewhere rings polygons noted ring near home its here is listed is_its of_its)

-- where it leads out, one less
left_count : (rings : List (List Position)) (polygons : List (ℕ × ℕ)) {nearest : ℕ → Option ℕ} {odd : ℕ → Bool} {come_to : List ℕ} → AreNotedBy rings nearest odd come_to
    → ArePolygons rings polygons → (home : ℕ) (its : PolygonRings) (ring near : ℕ) → ring < length rings → nearest ring ≡ Some near → IsPolygon rings home its → IsRingOf its near
    → LeavesPolygon rings its near → around_count rings polygons ring + 1 ≡ around_count rings polygons near
unfolding around_count
left_count rings polygons noted listed home its ring near here is is_its of_its way =
    sym (one_more (is_within rings near) (is_within rings ring) polygons home (its.exterior, its.after) (listed.all home its is_its)
    (passed_test (within_or_not rings its near) (within_left rings its near way))
    (failed_test (within_or_not rings its ring) (after_hole rings noted its ring near here is way.hole))
    (λ place it differ there. sym (alike_elsewhere rings polygons noted ring near home its here is listed is_its of_its place it differ there)))

-- else the same
kept_count : (rings : List (List Position)) (polygons : List (ℕ × ℕ)) {nearest : ℕ → Option ℕ} {odd : ℕ → Bool} {come_to : List ℕ} → AreNotedBy rings nearest odd come_to
    → ArePolygons rings polygons → (home : ℕ) (its : PolygonRings) (ring near : ℕ) → ring < length rings → nearest ring ≡ Some near → IsPolygon rings home its → IsRingOf its near
    → IsPassing rings its near Neither → around_count rings polygons ring ≡ around_count rings polygons near
unfolding around_count
kept_count rings polygons noted listed home its ring near here is is_its of_its way =
    let none = none_within rings noted its ring near here is of_its way in
    same_count (is_within rings ring) (is_within rings near) polygons (λ place it there. elim (cases_eq place home) [
      | inr differ ↦ alike_elsewhere rings polygons noted ring near home its here is listed is_its of_its place it differ there
      | inl same ↦
          let own : it ≡ (its.exterior, its.after) = same_Some it (its.exterior, its.after) (sym there ∙ ap (slice_get polygons) same ∙ listed.all home its is_its) in
          ap (is_within rings ring) own ∙ failed_test (within_or_not rings its ring) none.0
          ∙ sym (ap (is_within rings near) own ∙ failed_test (within_or_not rings its near) none.1)
    ])

-- the count of a ring directly within another, by the way into that
pub next_count : (rings : List (List Position)) (polygons : List (ℕ × ℕ)) {nearest : ℕ → Option ℕ} {odd : ℕ → Bool} {come_to : List ℕ} → AreNotedBy rings nearest odd come_to
    → ArePolygons rings polygons → (home : ℕ) (its : PolygonRings) (ring near : ℕ) (way : Passing) → ring < length rings → nearest ring ≡ Some near → IsPolygon rings home its
    → IsRingOf its near → IsPassing rings its near way → IsNextCount way (around_count rings polygons near) (around_count rings polygons ring)
next_count rings polygons noted listed home its ring near Enters here is is_its of_its way = entered_count rings polygons noted listed home its ring near here is is_its of_its way
next_count rings polygons noted listed home its ring near Leaves here is is_its of_its way = left_count rings polygons noted listed home its ring near here is is_its of_its way
next_count rings polygons noted listed home its ring near Neither here is is_its of_its way = kept_count rings polygons noted listed home its ring near here is is_its of_its way

-- ---- what the count of an exterior says

-- a polygon of which the first vertex is inside another
abbrev pub HasFirstVertexInside : List (List Position) → ℕ → Type 0
HasFirstVertexInside rings polygon = (other : ℕ) × IsApartFault rings polygon 0 other

-- where it counts some there is such a polygon
count_shows : (rings : List (List Position)) (polygons : List (ℕ × ℕ)) (polygon : ℕ) (it : PolygonRings) → NoMeeting rings → ArePolygons rings polygons → IsPolygon rings polygon it
    → 0 < around_count rings polygons it.exterior → HasFirstVertexInside rings polygon
unfolding around_count
count_shows rings polygons polygon it none listed is_it some =
    let (other, its, there, holds) = counted (is_within rings it.exterior) polygons some in
    let within = (test_decides (within_or_not rings (listed_rings its) it.exterior)).0 holds in
    (other, within_fault rings polygon other it (listed_rings its) none is_it (listed.only other its.0 its.1 there) within)

-- where a vertex is inside another polygon it counts some
shown_by_count : (rings : List (List Position)) (polygons : List (ℕ × ℕ)) (polygon vertex other : ℕ) (it : PolygonRings) → NoMeeting rings → ArePolygons rings polygons
    → IsPolygon rings polygon it → IsApartFault rings polygon vertex other → 0 < around_count rings polygons it.exterior
unfolding around_count
shown_by_count rings polygons polygon vertex other it none listed is_it fault =
    let its = fault.other_rings in
    let within = fault_within rings polygon other vertex it its none is_it fault.other_there fault in
    some_counted (is_within rings it.exterior) polygons other (its.exterior, its.after) (listed.all other its fault.other_there) (passed_test (within_or_not rings its it.exterior) within)

-- so it counts some exactly where the first vertex of the exterior is inside another polygon
pub count_decides : (rings : List (List Position)) (polygons : List (ℕ × ℕ)) (polygon : ℕ) (it : PolygonRings) → NoMeeting rings → ArePolygons rings polygons → IsPolygon rings polygon it
    → (0 < around_count rings polygons it.exterior) ↔ HasFirstVertexInside rings polygon
count_decides rings polygons polygon it none listed is_it =
    (count_shows rings polygons polygon it none listed is_it, λ found. shown_by_count rings polygons polygon 0 found.0 it none listed is_it found.1)

-- where it counts none the polygon is apart from all others
pub apart_by_count : (rings : List (List Position)) (polygons : List (ℕ × ℕ)) (polygon : ℕ) (it : PolygonRings) → NoMeeting rings → ArePolygons rings polygons → IsPolygon rings polygon it
    → around_count rings polygons it.exterior ≡ 0 → (vertex other : ℕ) → ¬ IsApartFault rings polygon vertex other
apart_by_count rings polygons polygon it none listed is_it nothing vertex other fault =
    let some = shown_by_count rings polygons polygon vertex other it none listed is_it fault in
    omega arith

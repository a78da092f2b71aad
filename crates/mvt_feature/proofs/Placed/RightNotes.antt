-- What is noted of the rings of a feature is right exactly where no polygon has a fault: each exterior has an even number
-- of rings around it, and each hole is directly within the exterior of its polygon.
use Rattle.std.proofs.Common.{◌≡◌, ◌≢◌, ◌⊎◌, ◌↔◌, inl, inr, ℕ, ◌<◌, Bool, true, false, List, length, Option, Some, sym, ◌∙◌, ap, subst, arith}
use Rattle.std.proofs.Math.Bool.{not}
use Rattle.std.proofs.lemmas.Bool.{cases_lt}
use Rattle.mvt_rules.specs.Parts.Rings.{part_of}
use Rattle.mvt_rules.specs.Polygon.{PolygonRings, IsExterior, IsPolygon, IsRingOf, IsHoleOf}
use Rattle.mvt_plane.specs.Position.{Position}
use Rattle.mvt_rules.specs.Ring.{ArePolygonRings}
use Rattle.mvt_rules.proofs.Rings.PolygonNumbers.{polygon_of_ring}
use Rattle.mvt_rules.proofs.Rings.SamePolygons.{exterior_of_polygon, one_polygon, polygon_begins_within}
use Rattle.mvt_polygon.specs.Apart.{IsApartFault}
use Rattle.mvt_sweep.specs.Meeting.{NoMeeting}
use Rattle.mvt_polygon.specs.Nesting.{IsNestFault}
use Rattle.mvt_sweep.specs.Rings.{AreProperRings}
use Rattle.mvt_feature.specs.Calls.PolygonsAround.{AreNotedBy, IsWithinPolygon}
use Rattle.mvt_sweep.specs.RingsAround.{IsAround}
use Rattle.mvt_polygon.specs.declared.nesting.NestFault.{NestFault}
use Rattle.mvt_polygon.proofs.ApartFaults.{ends_within}
use Rattle.mvt_feature.proofs.Placed.AroundEachOther.{CarriesInward, found_or_not, has_nearest, nearest_around, around_nearest, nearest_or_around, of_all_rings, around_inner, not_both_around, nested_around}
use Rattle.mvt_feature.proofs.Features.FaultsByRings.{AreHolesInPlace, no_nest_fault, no_apart_fault}

-- ---- what is said

-- of each exterior an even number of rings is noted, and of each hole that it is directly within its polygon's exterior
pub record AreNotesRight (rings : List (List Position)) (nearest : ℕ → Option ℕ) (odd : ℕ → Bool) : Type 0 where
  pub even : (polygon : ℕ) (it : PolygonRings) → IsPolygon rings polygon it → odd it.exterior ≡ false
  pub directly : (polygon : ℕ) (it : PolygonRings) (hole : ℕ) → IsPolygon rings polygon it → IsHoleOf it hole → nearest hole ≡ Some it.exterior

-- no hole of a polygon has a fault, and no polygon is inside another
pub record AreClear (rings : List (List Position)) : Type 0 where
  pub nesting : (polygon : ℕ) (it : PolygonRings) → IsPolygon rings polygon it → (fault : NestFault) → ¬ IsNestFault (part_of rings it) fault
  pub apart : (polygon vertex other : ℕ) → ¬ IsApartFault rings polygon vertex other

-- the same by the rings around rings
pub record AreInPlace (rings : List (List Position)) : Type 0 where
  pub holes : (polygon : ℕ) (it : PolygonRings) → IsPolygon rings polygon it → AreHolesInPlace rings it
  pub apart : (polygon other : ℕ) (it its : PolygonRings) → IsPolygon rings polygon it → IsPolygon rings other its → ¬ IsWithinPolygon rings its it.exterior

-- no polygon has a fault exactly where all are in place
pub clear_in_place : (rings : List (List Position)) → NoMeeting rings → AreProperRings rings → AreClear rings ↔ AreInPlace rings
clear_in_place rings none proper = (
  λ clear. record {
    holes = λ polygon it is_it. (no_nest_fault rings polygon it none proper is_it).0 (clear.nesting polygon it is_it);
    apart = λ polygon other it its is_it is_its. (no_apart_fault rings polygon it none is_it).0 (clear.apart polygon) other its is_its;
  },
  λ place. record {
    nesting = λ polygon it is_it. (no_nest_fault rings polygon it none proper is_it).1 (place.holes polygon it is_it);
    apart = λ polygon vertex other fault.
        let it = fault.polygon_rings in
        (no_apart_fault rings polygon it none fault.there).1 (λ other its is_its. place.apart polygon other it its fault.there is_its) vertex other fault;
  },
)

-- ---- the rings of a polygon

-- a ring of it is its exterior or a hole
pub exterior_or_hole : (it : PolygonRings) (ring : ℕ) → IsRingOf it ring → (it.exterior ≡ ring) ⊎ IsHoleOf it ring
exterior_or_hole it ring of_it =
    let from = of_it.from in
    elim (cases_lt it.exterior ring) [
      | inl following ↦ inr (record { following = following; before = of_it.before })
      | inr at ↦ inl (omega arith)
    ]

-- the exterior is one of its rings
pub exterior_of : (rings : List (List Position)) (polygon : ℕ) (it : PolygonRings) → IsPolygon rings polygon it → IsRingOf it it.exterior
exterior_of rings polygon it is_it = record { from = omega arith; before = is_it.further }

-- a hole is one of all the rings
pub hole_within : (rings : List (List Position)) (polygon : ℕ) (it : PolygonRings) (hole : ℕ) → IsPolygon rings polygon it → IsHoleOf it hole → hole < length rings
hole_within rings polygon it hole is_it is =
    let ends = ends_within rings polygon it is_it in
    let before = is.before in
    omega arith

-- the exterior of a polygon is no hole of any
pub exterior_no_hole : (rings : List (List Position)) (polygon other : ℕ) (it its : PolygonRings) (hole : ℕ) → IsPolygon rings polygon it → IsPolygon rings other its → IsHoleOf its hole
    → it.exterior ≢ hole
exterior_no_hole rings polygon other it its hole is_it is_its is same =
    is_its.holes hole is.following is.before (subst (IsExterior rings) same (exterior_of_polygon rings polygon it.exterior is_it.begins))

-- polygons of one exterior have the same rings
pub same_by_exterior : (rings : List (List Position)) (polygon other : ℕ) (it its : PolygonRings) → IsPolygon rings polygon it → IsPolygon rings other its → it.exterior ≡ its.exterior → it ≡ its
same_by_exterior rings polygon other it its is_it is_its same =
    (one_polygon rings it.exterior polygon other it its is_it (exterior_of rings polygon it is_it) is_its
    (subst (IsRingOf its) (sym same) (exterior_of rings other its is_its))).1

-- ---- right notes

-- a hole of one polygon is around the exterior of another
abbrev HasHoleAround : List (List Position) → PolygonRings → PolygonRings → Type 0
HasHoleAround rings its it = (hole : ℕ) × IsHoleOf its hole × IsAround rings hole it.exterior

-- so it is of each polygon whose exterior is around that
abbrev HasHolesAround : List (List Position) → PolygonRings → Type 0
HasHolesAround rings it = (other : ℕ) (its : PolygonRings) → IsPolygon rings other its → IsAround rings its.exterior it.exterior → HasHoleAround rings its it

-- so it is for the polygon of this ring
abbrev HasPolygonAfterHoles : List (List Position) → ℕ → Type 0
HasPolygonAfterHoles rings ring = (polygon : ℕ) (it : PolygonRings) → IsPolygon rings polygon it → IsRingOf it ring → HasHolesAround rings it

-- where the notes are right, the ring directly around an exterior is a hole
hole_directly_around : (rings : List (List Position)) {nearest : ℕ → Option ℕ} {odd : ℕ → Bool} {come_to : List ℕ} → AreNotedBy rings nearest odd come_to → AreNotesRight rings nearest odd
    → (polygon other : ℕ) (it its : PolygonRings) (near : ℕ) → IsPolygon rings polygon it → IsPolygon rings other its → nearest it.exterior ≡ Some near → IsRingOf its near → IsHoleOf its near
hole_directly_around rings {nearest} {odd} noted right polygon other it its near is_it is_its is of_its = elim (exterior_or_hole its near of_its) [
  | inl same ↦
      let turned : odd it.exterior ≡ not (odd near) = noted.turned it.exterior near (polygon_begins_within rings polygon it.exterior is_it.begins) is in
      let even : odd it.exterior ≡ false = right.even polygon it is_it in
      let even_too : odd near ≡ false = ap odd (sym same) ∙ right.even other its is_its in
      let clash : false ≡ true = sym even ∙ turned ∙ ap not even_too in
      absurd (cc)
  | inr hole ↦ hole
]

-- the polygon of that hole being after holes, the exterior is
after_hole : (rings : List (List Position)) {nearest : ℕ → Option ℕ} {odd : ℕ → Bool} {come_to : List ℕ} → AreNotedBy rings nearest odd come_to → AreNotesRight rings nearest odd
    → (polygon home : ℕ) (it its : PolygonRings) (near : ℕ) → IsPolygon rings polygon it → IsPolygon rings home its → nearest it.exterior ≡ Some near → IsHoleOf its near
    → HasHolesAround rings its → HasHolesAround rings it
after_hole rings noted right polygon home it its near is_it is_its is hole earlier other others is_others around =
    let within = polygon_begins_within rings polygon it.exterior is_it.begins in
    let near_within = hole_within rings home its near is_its hole in
    let directly = right.directly home its near is_its hole in
    elim (nearest_or_around rings noted it.exterior near others.exterior is around) [
      | inl same ↦ absurd (exterior_no_hole rings other home others its near is_others is_its hole same)
      | inr further ↦ elim (nearest_or_around rings noted near its.exterior others.exterior directly further) [
        | inl same ↦
            let one : its ≡ others = same_by_exterior rings home other its others is_its is_others (sym same) in
            (near, subst (λ (rings : PolygonRings). IsHoleOf rings near) one hole, nearest_around rings noted it.exterior near within is)
        | inr outer ↦
            let (between, is_between, round) = earlier other others is_others outer in
            (between, is_between, around_nearest rings noted it.exterior near between within is (around_nearest rings noted near its.exterior between near_within directly round))
      ]
    ]

-- so it goes on from ring to ring
after_inward : (rings : List (List Position)) {nearest : ℕ → Option ℕ} {odd : ℕ → Bool} {come_to : List ℕ} → ArePolygonRings rings → AreNotedBy rings nearest odd come_to
    → AreNotesRight rings nearest odd → CarriesInward rings nearest (HasPolygonAfterHoles rings)
after_inward rings {nearest} able noted right ring within earlier polygon it is_it of_it = elim (exterior_or_hole it ring of_it) [
  | inr hole ↦ earlier it.exterior (right.directly polygon it ring is_it hole) polygon it is_it (exterior_of rings polygon it is_it)
  | inl same ↦ λ other its is_its around.
      let (near, near_is) = has_nearest rings noted its.exterior it.exterior around in
      let here = subst (λ (number : ℕ). number < length rings) (sym same) within in
      let (home, near_rings, is_near, of_near) = polygon_of_ring rings near able (noted.known it.exterior near here near_is) in
      let hole = hole_directly_around rings noted right polygon home it near_rings near is_it is_near near_is of_near in
      after_hole rings noted right polygon home it near_rings near is_it is_near near_is hole
      (earlier near (ap nearest (sym same) ∙ near_is) home near_rings is_near of_near) other its is_its around
]

-- so where the notes are right the holes are in place
right_holes : (rings : List (List Position)) {nearest : ℕ → Option ℕ} {odd : ℕ → Bool} {come_to : List ℕ} → AreNotedBy rings nearest odd come_to → AreNotesRight rings nearest odd
    → (polygon : ℕ) (it : PolygonRings) → IsPolygon rings polygon it → AreHolesInPlace rings it
right_holes rings noted right polygon it is_it =
    let enclosed : (hole : ℕ) → IsHoleOf it hole → IsAround rings it.exterior hole = λ hole is.
    nearest_around rings noted hole it.exterior (hole_within rings polygon it hole is_it is) (right.directly polygon it hole is_it is) in
    record {
      enclosed = enclosed;
      side_by_side = λ hole other is is_too around. elim (nearest_or_around rings noted hole it.exterior other (right.directly polygon it hole is_it is) around) [
        | inl same ↦ exterior_no_hole rings polygon polygon it it other is_it is_it is_too (sym same)
        | inr back ↦ not_both_around rings noted other it.exterior back (enclosed other is_too)
      ];
    }

-- and no polygon is within another
right_polygons : (rings : List (List Position)) {nearest : ℕ → Option ℕ} {odd : ℕ → Bool} {come_to : List ℕ} → ArePolygonRings rings → AreNotedBy rings nearest odd come_to
    → AreNotesRight rings nearest odd → (polygon other : ℕ) (it its : PolygonRings) → IsPolygon rings polygon it → IsPolygon rings other its → ¬ IsWithinPolygon rings its it.exterior
right_polygons rings able noted right polygon other it its is_it is_its within =
    let following = of_all_rings rings noted (HasPolygonAfterHoles rings) (after_inward rings able noted right) it.exterior (polygon_begins_within rings polygon it.exterior is_it.begins) in
    let (hole, is, around) = following polygon it is_it (exterior_of rings polygon it is_it) other its is_its within.exterior in
    within.in_no_hole hole is around

-- where the notes are right no polygon has a fault
pub right_is_clear : (rings : List (List Position)) {nearest : ℕ → Option ℕ} {odd : ℕ → Bool} {come_to : List ℕ} → ArePolygonRings rings → NoMeeting rings → AreProperRings rings
    → AreNotedBy rings nearest odd come_to → AreNotesRight rings nearest odd → AreClear rings
right_is_clear rings able none proper noted right =
    (clear_in_place rings none proper).1 (record { holes = right_holes rings noted right; apart = right_polygons rings able noted right })

-- ---- polygons without a fault

-- where all are in place, no exterior inside the one of a polygon has a hole of that polygon inside
no_exterior_between : (rings : List (List Position)) {nearest : ℕ → Option ℕ} {odd : ℕ → Bool} {come_to : List ℕ} → AreNotedBy rings nearest odd come_to → AreInPlace rings
    → (polygon other : ℕ) (it its : PolygonRings) (hole : ℕ) → IsPolygon rings polygon it → IsPolygon rings other its → IsHoleOf it hole → IsAround rings it.exterior its.exterior
    → ¬ IsAround rings its.exterior hole
no_exterior_between rings noted place polygon other it its hole is_it is_its is around further =
    place.apart other polygon its it is_its is_it (record {
      exterior = around;
      in_no_hole = λ another is_too round. (place.holes polygon it is_it).side_by_side hole another is is_too (around_inner rings noted another its.exterior hole round further);
    })

-- nor has a hole
no_hole_between : (rings : List (List Position)) {nearest : ℕ → Option ℕ} {odd : ℕ → Bool} {come_to : List ℕ} → AreNotedBy rings nearest odd come_to → AreInPlace rings
    → (polygon other : ℕ) (it its : PolygonRings) (hole between : ℕ) → IsPolygon rings polygon it → IsPolygon rings other its → IsHoleOf it hole → IsHoleOf its between
    → IsAround rings it.exterior between → ¬ IsAround rings between hole
no_hole_between rings noted place polygon other it its hole between is_it is_its is is_too around further =
    let enclosed = (place.holes other its is_its).enclosed between is_too in
    elim (nested_around rings noted between it.exterior its.exterior around enclosed) [
      | inl same ↦
          let one : its ≡ it = same_by_exterior rings other polygon its it is_its is_it (sym same) in
          (place.holes polygon it is_it).side_by_side hole between is (subst (λ (rings : PolygonRings). IsHoleOf rings between) one is_too) further
      | inr apart ↦ elim apart [
        | inl outer ↦ no_exterior_between rings noted place polygon other it its hole is_it is_its is outer (around_inner rings noted its.exterior between hole enclosed further)
        | inr inner ↦ no_exterior_between rings noted place other polygon its it between is_its is_it is_too inner around
      ]
    ]

-- nor has any ring
nothing_between : (rings : List (List Position)) {nearest : ℕ → Option ℕ} {odd : ℕ → Bool} {come_to : List ℕ} → ArePolygonRings rings → AreNotedBy rings nearest odd come_to → AreInPlace rings
    → (polygon : ℕ) (it : PolygonRings) (hole between : ℕ) → IsPolygon rings polygon it → IsHoleOf it hole → between < length rings → IsAround rings it.exterior between
    → ¬ IsAround rings between hole
nothing_between rings able noted place polygon it hole between is_it is within around further =
    let (other, its, is_its, of_its) = polygon_of_ring rings between able within in
    elim (exterior_or_hole its between of_its) [
      | inl same ↦ no_exterior_between rings noted place polygon other it its hole is_it is_its is (subst (IsAround rings it.exterior) (sym same) around)
          (subst (λ (number : ℕ). IsAround rings number hole) (sym same) further)
      | inr is_too ↦ no_hole_between rings noted place polygon other it its hole between is_it is_its is is_too around further
    ]

-- so each hole is directly within the exterior
directly_within : (rings : List (List Position)) {nearest : ℕ → Option ℕ} {odd : ℕ → Bool} {come_to : List ℕ} → ArePolygonRings rings → AreNotedBy rings nearest odd come_to → AreInPlace rings
    → (polygon : ℕ) (it : PolygonRings) (hole : ℕ) → IsPolygon rings polygon it → IsHoleOf it hole → nearest hole ≡ Some it.exterior
directly_within rings able noted place polygon it hole is_it is =
    let enclosed = (place.holes polygon it is_it).enclosed hole is in
    let within = hole_within rings polygon it hole is_it is in
    let (near, near_is) = has_nearest rings noted it.exterior hole enclosed in
    elim (nearest_or_around rings noted hole near it.exterior near_is enclosed) [
      | inl same ↦ near_is ∙ ap Some (sym same)
      | inr around ↦ absurd (nothing_between rings able noted place polygon it hole near is_it is (noted.known hole near within near_is) around
          (nearest_around rings noted hole near within near_is))
    ]

-- no exterior is directly within another
not_directly_within : (rings : List (List Position)) {nearest : ℕ → Option ℕ} {odd : ℕ → Bool} {come_to : List ℕ} → AreNotedBy rings nearest odd come_to → AreInPlace rings
    → (polygon other : ℕ) (it its : PolygonRings) → IsPolygon rings polygon it → IsPolygon rings other its → nearest it.exterior ≢ Some its.exterior
not_directly_within rings noted place polygon other it its is_it is_its directly =
    place.apart polygon other it its is_it is_its (record {
      exterior = nearest_around rings noted it.exterior its.exterior (polygon_begins_within rings polygon it.exterior is_it.begins) directly;
      in_no_hole = λ hole is around. elim (nearest_or_around rings noted it.exterior its.exterior hole directly around) [
        | inl same ↦ exterior_no_hole rings other other its its hole is_its is_its is (sym same)
        | inr back ↦ not_both_around rings noted hole its.exterior back ((place.holes other its is_its).enclosed hole is)
      ];
    })

-- the exterior of the ring's polygon has an even number of rings around it
abbrev HasEvenExterior : List (List Position) → (ℕ → Bool) → ℕ → Type 0
HasEvenExterior rings odd ring = (polygon : ℕ) (it : PolygonRings) → IsPolygon rings polygon it → IsRingOf it ring → odd it.exterior ≡ false

-- where the exterior of the polygon directly around it has
even_by_nearest : (rings : List (List Position)) {nearest : ℕ → Option ℕ} {odd : ℕ → Bool} {come_to : List ℕ} → ArePolygonRings rings → AreNotedBy rings nearest odd come_to → AreInPlace rings
    → (polygon : ℕ) (it : PolygonRings) (near : ℕ) → IsPolygon rings polygon it → nearest it.exterior ≡ Some near → HasEvenExterior rings odd near → odd it.exterior ≡ false
even_by_nearest rings {nearest} {odd} able noted place polygon it near is_it is earlier =
    let within = polygon_begins_within rings polygon it.exterior is_it.begins in
    let near_within = noted.known it.exterior near within is in
    let (home, its, is_its, of_its) = polygon_of_ring rings near able near_within in
    elim (exterior_or_hole its near of_its) [
      | inl same ↦ absurd (not_directly_within rings noted place polygon home it its is_it is_its (is ∙ ap Some (sym same)))
      | inr hole ↦
          let directly = directly_within rings able noted place home its near is_its hole in
          let turned : odd it.exterior ≡ not (odd near) = noted.turned it.exterior near within is in
          let turned_too : odd near ≡ not (odd its.exterior) = noted.turned near its.exterior near_within directly in
          let even : odd its.exterior ≡ false = earlier home its is_its of_its in
          turned ∙ ap not (turned_too ∙ ap not even)
    ]

-- so it goes on from ring to ring
even_inward : (rings : List (List Position)) {nearest : ℕ → Option ℕ} {odd : ℕ → Bool} {come_to : List ℕ} → ArePolygonRings rings → AreNotedBy rings nearest odd come_to → AreInPlace rings
    → CarriesInward rings nearest (HasEvenExterior rings odd)
even_inward rings {nearest} {odd} able noted place ring within earlier polygon it is_it of_it = elim (exterior_or_hole it ring of_it) [
  | inr hole ↦ earlier it.exterior (directly_within rings able noted place polygon it ring is_it hole) polygon it is_it (exterior_of rings polygon it is_it)
  | inl same ↦ elim (found_or_not (nearest ring)) [
    | inl none ↦ ap odd same ∙ noted.even ring within none
    | inr found ↦ even_by_nearest rings able noted place polygon it found.0 is_it (ap nearest same ∙ found.1) (earlier found.0 found.1)
  ]
]

-- where no polygon has a fault the notes are right
pub clear_is_right : (rings : List (List Position)) {nearest : ℕ → Option ℕ} {odd : ℕ → Bool} {come_to : List ℕ} → ArePolygonRings rings → NoMeeting rings → AreProperRings rings
    → AreNotedBy rings nearest odd come_to → AreClear rings → AreNotesRight rings nearest odd
clear_is_right rings {nearest} {odd} able none proper noted clear =
    let place = (clear_in_place rings none proper).0 clear in
    record {
      even = λ polygon it is_it. of_all_rings rings noted (HasEvenExterior rings odd) (even_inward rings able noted place) it.exterior
          (polygon_begins_within rings polygon it.exterior is_it.begins) polygon it is_it (exterior_of rings polygon it is_it);
      directly = directly_within rings able noted place;
    }

-- What the rings of one polygon are to the number of polygons around: by notes of them, and among all rings.
use Rattle.std.proofs.Common.{◌≡◌, ◌≢◌, ◌↔◌, inl, inr, ℕ, zero, suc, ◌+◌, ◌-◌, ◌<◌, ◌≤◌, Bool, List, length, Option, Some, None, refl, sym, ◌∙◌, ap, subst, arith}
use Rattle.mvt_rules.specs.Nesting.{IsVertexOf}
use Rattle.mvt_rules.specs.Parts.Rings.{part_of, within_part, in_whole}
use Rattle.mvt_rules.specs.Polygon.{PolygonRings, IsHoleOf}
use Rattle.mvt_plane.specs.Position.{Position}
use Rattle.mvt_sweep.specs.Meeting.{NoMeeting}
use Rattle.mvt_rules.proofs.Rings.PartsOfRings.{ring_of_part, meeting_in_part}
use Rattle.mvt_polygon.proofs.PolygonSlices.{ring_of_whole}
use Rattle.mvt_polygon.specs.Nesting.{one_polygon}
use Rattle.mvt_feature.specs.Calls.Passings.{IsPassing, passing_by}
use Rattle.mvt_feature.specs.Calls.PolygonsAround.{AreNotedBy, EntersPolygon, LeavesPolygon}
use Rattle.mvt_sweep.specs.RingsAround.{IsAround, AreNoted, nearest_at, odd_at}
use Rattle.mvt_feature.specs.declared.feature.passing.Passing.{Passing}
use Rattle.mvt_feature.specs.declared.feature.passing.Passing.TheVariants.{Enters, Leaves, Neither}
use Rattle.mvt_sweep.specs.declared.sweep.notes.Around.{Around}
use Rattle.mvt_feature.proofs.Features.FaultsByRings.{whole_part}
use Rattle.mvt_feature.proofs.Placed.AroundEachOther.{outer_within, nearest_around, nearest_or_around, around_inner}

-- ---- by notes

-- notes as a list are notes of each ring
pub noted_by : (rings : List (List Position)) (notes : List Around) (come_to : List ℕ) → AreNoted rings notes come_to → AreNotedBy rings (nearest_at notes) (odd_at notes) come_to
noted_by rings notes come_to noted = record {
  alone = noted.alone;
  even = noted.even;
  known = noted.known;
  around = noted.around;
  turned = noted.turned;
  listed = noted.listed;
  only = noted.only;
  following = noted.following;
}

-- a ring that isn't the first is a hole
hole_after : (rings : List (List Position)) (ring : ℕ) → suc ring < length rings → IsHoleOf (one_polygon rings) (suc ring)
hole_after rings ring within = record { following = omega arith; before = within }

-- and doesn't lead in
not_entered : (rings : List (List Position)) (ring : ℕ) → ¬ EntersPolygon rings (one_polygon rings) (suc ring)
not_entered rings ring enters = let same : 0 ≡ suc ring = enters.exterior in omega arith

-- where a hole is around the exterior, it is around all that the exterior is around
after_outer : (rings : List (List Position)) {nearest : ℕ → Option ℕ} {odd : ℕ → Bool} {come_to : List ℕ} → AreNotedBy rings nearest odd come_to → (outer ring : ℕ) → IsAround rings outer 0
    → IsPassing rings (one_polygon rings) ring Neither
after_outer rings noted outer ring around =
    let differ : outer ≢ 0 = around.different in
    let hole : IsHoleOf (one_polygon rings) outer = record { following = omega arith; before = outer_within rings outer 0 around } in (
      λ enters. enters.in_no_hole outer hole (subst (λ (number : ℕ). IsAround rings outer number) enters.exterior around),
      λ leaves. leaves.alone outer hole (around_inner rings noted outer 0 ring around leaves.enclosed),
    )

-- where none is, and the exterior is directly around a hole, no other ring is
directly_within : (rings : List (List Position)) {nearest : ℕ → Option ℕ} {odd : ℕ → Bool} {come_to : List ℕ} → AreNotedBy rings nearest odd come_to → (ring : ℕ) → suc ring < length rings
    → nearest 0 ≡ None → nearest (suc ring) ≡ Some 0 → LeavesPolygon rings (one_polygon rings) (suc ring)
directly_within rings noted ring within none is = record {
  hole = hole_after rings ring within;
  enclosed = nearest_around rings noted (suc ring) 0 within is;
  alone = λ other hole around. elim (nearest_or_around rings noted (suc ring) 0 other is around) [
    | inl same ↦ let following : 0 < other = hole.following in omega arith
    | inr further ↦ noted.alone 0 (omega arith) none other further
  ];
}

-- so the rings directly around the exterior and around a ring say what that is
by_nearest : (rings : List (List Position)) {nearest : ℕ → Option ℕ} {odd : ℕ → Bool} {come_to : List ℕ} → AreNotedBy rings nearest odd come_to → (first own : Option ℕ) (ring : ℕ)
    → ring < length rings → nearest 0 ≡ first → nearest ring ≡ own → IsPassing rings (one_polygon rings) ring (passing_by first ring own)
by_nearest rings noted (Some outer) own ring within is its = after_outer rings noted outer ring (nearest_around rings noted 0 outer (omega arith) is)
by_nearest rings noted None own zero within is its = record { exterior = refl; in_no_hole = λ hole is_hole around. noted.alone 0 within is hole around }
by_nearest rings noted None None (suc ring) within is its = (not_entered rings ring, λ leaves. noted.alone (suc ring) within its 0 leaves.enclosed)
by_nearest rings noted None (Some zero) (suc ring) within is its = directly_within rings noted ring within is its
by_nearest rings noted None (Some (suc hole)) (suc ring) within is its =
    let around = nearest_around rings noted (suc ring) (suc hole) within its in
    (not_entered rings ring, λ leaves. leaves.alone (suc hole) (hole_after rings hole (outer_within rings (suc hole) (suc ring) around)) around)

-- the same of what a list of notes has
pub own_passing : (rings : List (List Position)) (notes : List Around) (come_to : List ℕ) (ring : ℕ) (passing : Passing) → AreNoted rings notes come_to → ring < length rings
    → passing ≡ passing_by (nearest_at notes 0) ring (nearest_at notes ring) → IsPassing rings (one_polygon rings) ring passing
own_passing rings notes come_to ring passing noted within is =
    subst (IsPassing rings (one_polygon rings) ring) (sym is) (by_nearest rings (noted_by rings notes come_to noted) (nearest_at notes 0) (nearest_at notes ring) ring within refl refl)

-- a polygon of one ring is entered
pub one_ring : (rings : List (List Position)) → length rings ≡ 1 → IsPassing rings (one_polygon rings) 0 Enters
one_ring rings one = record { exterior = refl; in_no_hole = λ hole is. let following : 0 < hole = is.following in let before : hole < length rings = is.before in absurd (omega arith) }

-- ---- among all rings

-- where no edges of all rings meet wrongly, none of the part do
pub clear_part : (rings : List (List Position)) (its : PolygonRings) → its.after ≤ length rings → NoMeeting rings → NoMeeting (part_of rings its)
clear_part rings its within none first second point meets =
    let first_below : first.ring < its.after - its.exterior = (ring_of_whole rings its first.ring meets.one_there.ring within meets.one_there.there).0 in
    let second_below : second.ring < its.after - its.exterior = (ring_of_whole rings its second.ring meets.other_there.ring within meets.other_there.there).0 in
    none (in_whole its.exterior first) (in_whole its.exterior second) point ((meeting_in_part rings its first second point first_below second_below).0 meets)

-- a vertex in the part
pub vertex_in_part : (rings : List (List Position)) (its : PolygonRings) (ring vertex : ℕ) (position : Position) → ring < its.after - its.exterior
    → IsVertexOf (part_of rings its) ring vertex position ↔ IsVertexOf rings (its.exterior + ring) vertex position
vertex_in_part rings its ring vertex position within =
    let same = ring_of_part rings its ring within in (
      λ is. record { vertices = is.vertices; there = sym same ∙ is.there; here = is.here },
      λ is. record { vertices = is.vertices; there = same ∙ is.there; here = is.here },
    )

-- a ring of the part is around another exactly where it is in the whole
around_in_part : (rings : List (List Position)) (its : PolygonRings) (outer inner : ℕ) → outer < its.after - its.exterior → inner < its.after - its.exterior
    → IsAround (part_of rings its) outer inner ↔ IsAround rings (its.exterior + outer) (its.exterior + inner)
around_in_part rings its outer inner outer_below inner_below =
    let same = ring_of_part rings its outer outer_below in (
      λ is. record {
        different = λ alike. is.different (omega arith);
        around = is.around;
        there = sym same ∙ is.there;
        position = is.position;
        here = (vertex_in_part rings its inner 0 is.position inner_below).0 is.here;
        inside = is.inside;
      },
      λ is. record {
        different = λ alike. is.different (ap (λ (number : ℕ). its.exterior + number) alike);
        around = is.around;
        there = same ∙ is.there;
        position = is.position;
        here = (vertex_in_part rings its inner 0 is.position inner_below).1 is.here;
        inside = is.inside;
      },
    )

-- a hole by its number in the part
hole_in_part : (its : PolygonRings) (hole : ℕ) → IsHoleOf its hole → (own : ℕ) × (hole ≡ its.exterior + own) × IsHoleOf (within_part its) own
hole_in_part its hole is =
    let following = is.following in
    let before = is.before in
    (hole - its.exterior, omega arith, record { following = omega arith; before = omega arith })

-- and by its number in the whole
hole_in_whole : (its : PolygonRings) (own : ℕ) → IsHoleOf (within_part its) own → IsHoleOf its (its.exterior + own)
hole_in_whole its own is =
    let following : 0 < own = is.following in
    let before : own < its.after - its.exterior = is.before in
    record { following = omega arith; before = omega arith }

-- where no hole of the part is around a ring, none of the polygon is
alone_in_whole : (rings : List (List Position)) (its : PolygonRings) (ring : ℕ) → ring < its.after - its.exterior
    → ((hole : ℕ) → IsHoleOf (within_part its) hole → ¬ IsAround (part_of rings its) hole ring) → (hole : ℕ) → IsHoleOf its hole → ¬ IsAround rings hole (its.exterior + ring)
alone_in_whole rings its ring below alone hole is around =
    let own = hole_in_part its hole is in
    let own_below : own.0 < its.after - its.exterior = own.2.before in
    alone own.0 own.2 ((around_in_part rings its own.0 ring own_below below).1 (subst (λ (number : ℕ). IsAround rings number (its.exterior + ring)) own.1 around))

-- and the other way round
alone_in_part : (rings : List (List Position)) (its : PolygonRings) (ring : ℕ) → ring < its.after - its.exterior
    → ((hole : ℕ) → IsHoleOf its hole → ¬ IsAround rings hole (its.exterior + ring)) → (hole : ℕ) → IsHoleOf (within_part its) hole → ¬ IsAround (part_of rings its) hole ring
alone_in_part rings its ring below alone hole is around =
    let hole_below : hole < its.after - its.exterior = is.before in
    alone (its.exterior + hole) (hole_in_whole its hole is) ((around_in_part rings its hole ring hole_below below).0 around)

-- the way into a ring leads into the part exactly where it leads into the polygon
enters_in_part : (rings : List (List Position)) (its : PolygonRings) (ring : ℕ) → ring < its.after - its.exterior
    → EntersPolygon (part_of rings its) (within_part its) ring ↔ EntersPolygon rings its (its.exterior + ring)
enters_in_part rings its ring below = (
  λ enters. let same : 0 ≡ ring = enters.exterior in record { exterior = omega arith; in_no_hole = alone_in_whole rings its ring below enters.in_no_hole },
  λ enters. let same = enters.exterior in record { exterior = omega arith; in_no_hole = alone_in_part rings its ring below enters.in_no_hole },
)

-- and out of it
pub leaves_in_part : (rings : List (List Position)) (its : PolygonRings) (ring : ℕ) → ring < its.after - its.exterior
    → LeavesPolygon (part_of rings its) (within_part its) ring ↔ LeavesPolygon rings its (its.exterior + ring)
leaves_in_part rings its ring below =
    let begins : its.exterior + 0 ≡ its.exterior = omega arith in (
      λ leaves. record {
        hole = hole_in_whole its ring leaves.hole;
        enclosed = subst (λ (number : ℕ). IsAround rings number (its.exterior + ring)) begins ((around_in_part rings its 0 ring (omega arith) below).0 leaves.enclosed);
        alone = alone_in_whole rings its ring below leaves.alone;
      },
      λ leaves. record {
        hole = let following = leaves.hole.following in record { following = omega arith; before = below };
        enclosed = (around_in_part rings its 0 ring (omega arith) below).1 (subst (λ (number : ℕ). IsAround rings number (its.exterior + ring)) (sym begins) leaves.enclosed);
        alone = alone_in_part rings its ring below leaves.alone;
      },
    )

-- so what a ring is in the part it is in the whole
within_whole : (rings : List (List Position)) (its : PolygonRings) (ring : ℕ) (passing : Passing) → ring < its.after - its.exterior
    → IsPassing (part_of rings its) (within_part its) ring passing → IsPassing rings its (its.exterior + ring) passing
within_whole rings its ring Enters below enters = (enters_in_part rings its ring below).0 enters
within_whole rings its ring Leaves below leaves = (leaves_in_part rings its ring below).0 leaves
within_whole rings its ring Neither below neither =
    (λ enters. neither.0 ((enters_in_part rings its ring below).1 enters), λ leaves. neither.1 ((leaves_in_part rings its ring below).1 leaves))

-- also by the length of the part
pub passing_in_whole : (rings : List (List Position)) (its : PolygonRings) (ring : ℕ) (passing : Passing) → its.after ≤ length rings → ring < its.after - its.exterior
    → IsPassing (part_of rings its) (one_polygon (part_of rings its)) ring passing → IsPassing rings its (its.exterior + ring) passing
passing_in_whole rings its ring passing ends below is =
    within_whole rings its ring passing below (subst (λ (other : PolygonRings). IsPassing (part_of rings its) other ring passing) (whole_part rings its ends) is)

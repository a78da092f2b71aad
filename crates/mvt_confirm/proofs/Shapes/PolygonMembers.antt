-- The polygon that a ring belongs to, by the place that a walk finds for the ring.
use Rattle.std.proofs.Common.{◌≡◌, ◌≢◌, ◌↔◌, ◌<◌, ◌≤◌, ◌==◌, ℕ, inl, inr, Bool, false, IsTrue, List, [], length, get_or, slice_get, Some, ap, subst, arith}
use Rattle.std.proofs.lemmas.Bool.Decides.{Decides-eqb}
use Rattle.std.proofs.lemmas.Option.{slice_get-get_or}
use Rattle.mvt_fault.specs.declared.profile.Profile.{Profile}
use Rattle.mvt_fault.specs.declared.ring.RingEdge.{RingEdge}
use Rattle.mvt_rules.specs.Meeting.{ComesBefore, MeetsWrongly}
use Rattle.mvt_rules.specs.Polygon.{PolygonRings, IsPolygon, IsRingOf, IsHoleOf}
use Rattle.mvt_plane.specs.Position.{Position}
use Rattle.mvt_plane.specs.Geometry.RationalPoint.{RationalPoint, IsBounded}
use Rattle.mvt_rules.specs.Ring.{ArePolygonRings}
use Rattle.mvt_rules.proofs.Rings.PolygonNumbers.{exterior_within}
use Rattle.mvt_rules.proofs.Rings.SamePolygons.{one_polygon, same_polygon}
use Rattle.mvt_rules.specs.PolygonFault.{IsMeetingBy}
use Rattle.mvt_rules.specs.Profiles.{IsKeptApart}
use Rattle.mvt_confirm.specs.Calls.Polygons.{IsPlaceOf}
use Rattle.mvt_confirm.specs.declared.polygons.RingPlace.{RingPlace}

-- the ring is one of the polygon of this number
abbrev IsMember : List (List Position) → ℕ → ℕ → Type 0
IsMember rings polygon ring = (it : PolygonRings) × IsPolygon rings polygon it × IsRingOf it ring

-- the ring is one of its holes
abbrev pub IsHole : List (List Position) → ℕ → ℕ → Type 0
IsHole rings polygon ring = (it : PolygonRings) × IsPolygon rings polygon it × IsHoleOf it ring

-- a claim that fails is decided by a test that fails
pub test_fails : {Claim : Type 0} (test : Bool) → test ≡ false → ¬ Claim → IsTrue test ↔ Claim
test_fails {Claim} test fails none = (λ holds. absurd (cc), λ claim. absurd (none claim))

-- Rings of a polygon

-- are there
within_rings : (rings : List (List Position)) (polygon ring : ℕ) (it : PolygonRings) → IsPolygon rings polygon it → IsRingOf it ring → ring < length rings
within_rings rings polygon ring it is of = elim is.ends [
  | inl last ↦ let before = of.before in omega arith
  | inr exterior ↦ let before = of.before in let within = exterior_within rings it.after exterior in omega arith
]

-- so they have vertices
pub vertices_there : (rings : List (List Position)) (polygon ring : ℕ) (it : PolygonRings) → IsPolygon rings polygon it → IsRingOf it ring → (vertices : List Position) × (slice_get rings ring ≡ Some vertices)
vertices_there rings polygon ring it is of = (get_or rings ring [], slice_get-get_or rings ring [] (within_rings rings polygon ring it is of))

-- its exterior is one
pub exterior_in : (rings : List (List Position)) (polygon : ℕ) (it : PolygonRings) → IsPolygon rings polygon it → IsRingOf it it.exterior
exterior_in rings polygon it is = let further = is.further in record { from = omega arith; before = further }

-- its holes are
pub hole_in : (it : PolygonRings) (ring : ℕ) → IsHoleOf it ring → IsRingOf it ring
hole_in it ring hole = let following = hole.following in record { from = omega arith; before = hole.before }

-- A ring whose place among the polygons is known

-- is one of the polygon of that place, and of no other
pub decided_by_place : (rings : List (List Position)) (polygon ring : ℕ) (place : RingPlace) → IsPlaceOf rings ring place → IsTrue (place.polygon == polygon) ↔ IsMember rings polygon ring
decided_by_place rings polygon ring place is = (
  λ same. (is.polygon_rings, subst (λ (number : ℕ). IsPolygon rings number is.polygon_rings) ((Decides-eqb place.polygon polygon).0 same) is.there, is.of),
  λ member. (Decides-eqb place.polygon polygon).1 (one_polygon rings ring place.polygon polygon is.polygon_rings member.0 is.there is.of member.1 member.2).0,
)

-- is one of the rings of that polygon, whichever they are said to be
pub member_decided : {Found : Type 0} (rings : List (List Position)) (polygon ring : ℕ) (it : PolygonRings) → IsPolygon rings polygon it → Found ↔ IsMember rings polygon ring → Found ↔ IsRingOf it ring
member_decided rings polygon ring it there decided = (
  λ found. let member = decided.0 found in subst (λ (its : PolygonRings). IsRingOf its ring) (same_polygon rings polygon member.0 it member.1 there) member.2,
  λ of. decided.1 (it, there, of),
)

-- is a hole where it isn't the exterior of that place
pub hole_by_place : (rings : List (List Position)) (polygon ring : ℕ) (place : RingPlace) → IsPlaceOf rings ring place → place.polygon ≡ polygon → place.exterior ≢ ring
    → (it : PolygonRings) × IsPolygon rings polygon it × IsHoleOf it ring × (it.exterior ≡ place.exterior)
hole_by_place rings polygon ring place is same other =
    let from = is.of.from in
    let begins = is.begins in (
      is.polygon_rings,
      subst (λ (number : ℕ). IsPolygon rings number is.polygon_rings) same is.there,
      record { following = omega arith; before = is.of.before },
      begins,
    )

-- is a hole of no other polygon
pub of_another_polygon : (rings : List (List Position)) (polygon ring : ℕ) (place : RingPlace) (it : PolygonRings) → IsPlaceOf rings ring place → place.polygon ≢ polygon → IsPolygon rings polygon it
    → ¬ IsHoleOf it ring
of_another_polygon rings polygon ring place it is other there hole = other (one_polygon rings ring place.polygon polygon is.polygon_rings it is.there is.of there (hole_in it ring hole)).0

-- is none where it is the exterior
pub is_exterior : (rings : List (List Position)) (polygon ring : ℕ) (place : RingPlace) (it : PolygonRings) → IsPlaceOf rings ring place → place.exterior ≡ ring → IsPolygon rings polygon it
    → ¬ IsHoleOf it ring
is_exterior rings polygon ring place it is same there hole =
    let one = (one_polygon rings ring place.polygon polygon is.polygon_rings it is.there is.of there (hole_in it ring hole)).1 in
    let exterior : is.polygon_rings.exterior ≡ it.exterior = ap (λ (its : PolygonRings). its.exterior) one in
    let begins = is.begins in
    let following = hole.following in
    omega arith

-- Where there are not so many rings

-- none belongs to a polygon
pub no_member : (rings : List (List Position)) (polygon ring : ℕ) → length rings ≤ ring → ¬ IsMember rings polygon ring
no_member rings polygon ring few member = let within = within_rings rings polygon ring member.0 member.1 member.2 in omega arith

-- Edges of two rings

-- meet where the second one's is of the polygon, from which the profile keeps the first one's, and the edges meet
pub meeting_by_parts : {Met : Type 0} (profile : Profile) (rings : List (List Position)) (polygon : ℕ) (first second : RingEdge) (point : RationalPoint) → ArePolygonRings rings
    → (member : IsMember rings polygon second.ring) → (ComesBefore first second → IsKeptApart profile member.0 first.ring)
    → Met ↔ (ComesBefore first second × IsBounded point × MeetsWrongly rings first second point)
    → Met ↔ IsMeetingBy profile rings polygon first second point
meeting_by_parts {Met} profile rings polygon first second point sound member kept met = (
  λ it. let all = met.0 it in record {
    polygon_rings = member.0;
    of = record { sound = sound; there = member.1 };
    first_in = kept all.0;
    second_in = member.2;
    in_order = all.0;
    bounded = all.1;
    meets = all.2;
  },
  λ meeting. met.1 (meeting.in_order, meeting.bounded, meeting.meets),
)

-- the second one's ring is of the polygon
pub second_member : (profile : Profile) (rings : List (List Position)) (polygon : ℕ) (first second : RingEdge) (point : RationalPoint) → IsMeetingBy profile rings polygon first second point
    → IsMember rings polygon second.ring
second_member profile rings polygon first second point meeting = (meeting.polygon_rings, meeting.of.there, meeting.second_in)

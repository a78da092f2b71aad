-- Of the faults of one feature's polygons, the first.
use Rattle.std.proofs.Common.{◌≡◌, ℕ, ◌<◌, ◌≤◌, inl, inr, List, [], ◌∷◌, ℤ, refl, sym, subst, arith}
use Rattle.std.proofs.lemmas.Bool.{cases_lt}
use Rattle.mvt_rules.proofs.Validity.InvalidRings.{not_sound}
use Rattle.mvt_rules.specs.Parts.Geometry.{IsFaultOfGeometryBy, command, ring, meeting, outside, hole_in_hole, in_polygon}
use Rattle.mvt_rules.specs.PolygonFault.{IsPolygonOf, IsMeetingBy, IsVertexOutside, IsVertexInHole, IsVertexInPolygonBy}
use Rattle.mvt_rules.specs.Profiles.{IsKeptApart}
use Rattle.mvt_rules.specs.Valid.{AreApartBy}
use Rattle.mvt_fault.proofs.Places.{ComesFirst-reflexive}
use Rattle.mvt_fault.specs.Code.{command_code, ring_code}
use Rattle.mvt_fault.specs.Place.{place_of, ComesFirst}
use Rattle.mvt_fault.specs.declared.fault.Fault.{Fault}
use Rattle.mvt_fault.specs.declared.fault.Fault.TheVariants.{Meeting, Outside, HoleInHole, InPolygon}
use Rattle.mvt_fault.specs.declared.profile.Profile.{Profile}
use Rattle.mvt_fault.specs.declared.ring.RingEdge.{RingEdge}
use Rattle.mvt_rules.proofs.Rings.SamePolygons.{same_polygon}
use Rattle.mvt_plane.specs.FeatureGeometry.{HasRings}
use Rattle.mvt_rules.specs.Nesting.{IsOutside, IsInHole}
use Rattle.mvt_rules.specs.Polygon.{PolygonRings, IsPolygon, IsRingOf}
use Rattle.mvt_plane.specs.Position.{Position}
use Rattle.mvt_plane.specs.Geometry.RationalPoint.{RationalPoint}
use Rattle.mvt_rules.specs.Ring.{BreaksRings, ArePolygonRings}
use Rattle.mvt_rules.specs.Tile.{FeatureRecord}
use Rattle.mvt_gate.proofs.FirstFaults.{of_these, no_command_fault}
use Rattle.mvt_gate.specs.Calls.Polygons.{IsFirstOfRings, AreValidBefore}

-- Faults that there are none of

-- where no edges of a polygon meet wrongly, it has no meeting
no_meeting : (profile : Profile) (parts : List (List Position)) (polygon : ℕ) (its : PolygonRings) (first second : RingEdge) (point : RationalPoint) → IsPolygon parts polygon its → AreApartBy profile parts its → ¬ IsMeetingBy profile parts polygon first second point
no_meeting profile parts polygon its first second point there apart meets =
    let same : meets.polygon_rings ≡ its = same_polygon parts polygon meets.polygon_rings its meets.of.there there in
    apart first second point
    (subst (λ (it : PolygonRings). IsKeptApart profile it first.ring) same meets.first_in)
    (subst (λ (it : PolygonRings). IsRingOf it second.ring) same meets.second_in)
    meets.meets

-- a vertex outside is one outside this polygon
vertex_outside : (parts : List (List Position)) (polygon hole vertex : ℕ) (its : PolygonRings) → IsPolygon parts polygon its → IsVertexOutside parts polygon hole vertex → IsOutside parts its hole vertex
vertex_outside parts polygon hole vertex its there of =
    let same : of.polygon_rings ≡ its = same_polygon parts polygon of.polygon_rings its of.of.there there in
    subst (λ (it : PolygonRings). IsOutside parts it hole vertex) same of.outside

-- and one in a hole is in one of this polygon
vertex_in_hole : (parts : List (List Position)) (polygon hole vertex other : ℕ) (its : PolygonRings) → IsPolygon parts polygon its → IsVertexInHole parts polygon hole vertex other → IsInHole parts its hole vertex other
vertex_in_hole parts polygon hole vertex other its there of =
    let same : of.polygon_rings ≡ its = same_polygon parts polygon of.polygon_rings its of.of.there there in
    subst (λ (it : PolygonRings). IsInHole parts it hole vertex other) same of.inside

-- where the polygons before this one are valid, each fault is of this one or a later one
at_least : (number polygon : ℕ) → (number < polygon → ⊥) → polygon ≤ number
at_least number polygon none = elim (cases_lt number polygon) [ inl less ↦ absurd (none less) | inr most ↦ most ]

meeting_at_least : (profile : Profile) (parts : List (List Position)) (polygon number : ℕ) (first second : RingEdge) (point : RationalPoint) → AreValidBefore profile parts polygon → IsMeetingBy profile parts number first second point → polygon ≤ number
meeting_at_least profile parts polygon number first second point valid meets =
    at_least number polygon (λ less. (valid number meets.polygon_rings less meets.of.there).apart first second point meets.first_in meets.second_in meets.meets)

outside_at_least : (profile : Profile) (parts : List (List Position)) (polygon number hole vertex : ℕ) → AreValidBefore profile parts polygon → IsVertexOutside parts number hole vertex → polygon ≤ number
outside_at_least profile parts polygon number hole vertex valid of =
    at_least number polygon (λ less. (valid number of.polygon_rings less of.of.there).enclosed hole vertex of.outside)

hole_at_least : (profile : Profile) (parts : List (List Position)) (polygon number hole vertex other : ℕ) → AreValidBefore profile parts polygon → IsVertexInHole parts number hole vertex other → polygon ≤ number
hole_at_least profile parts polygon number hole vertex other valid of =
    at_least number polygon (λ less. (valid number of.polygon_rings less of.of.there).side_by_side hole vertex other of.inside)

in_polygon_at_least : (profile : Profile) (parts : List (List Position)) (polygon number vertex other : ℕ) → AreValidBefore profile parts polygon → IsVertexInPolygonBy profile parts number vertex other → polygon ≤ number
in_polygon_at_least profile parts polygon number vertex other valid of =
    at_least number polygon (λ less. (valid number of.polygon_rings less of.of.there).beside vertex other of.other_rings of.other_there of.inside)

-- Places

-- the order by a polygon's number, and then by what is after it
by_polygon : (layer feature polygon number : ℕ) (xs ys : List ℕ) → polygon ≤ number → (polygon ≡ number → ComesFirst xs ys)
    → ComesFirst (2 ∷ layer ∷ feature ∷ 3 ∷ polygon ∷ xs) (2 ∷ layer ∷ feature ∷ 3 ∷ number ∷ ys)
by_polygon layer feature polygon number xs ys most following = elim (cases_lt polygon number) [
  | inl less ↦ inr (refl, inr (refl, inr (refl, inr (refl, inl less))))
  | inr more ↦ let same : polygon ≡ number = omega arith in inr (refl, inr (refl, inr (refl, inr (refl, inr (same, following same)))))
]

-- Meetings

-- the place of a meeting, without what all features' places begin with
abbrev no_more : List ℕ
no_more = 0 ∷ 0 ∷ 0 ∷ 0 ∷ 0 ∷ []

-- a meeting in the first polygon that isn't valid comes before all other faults of its feature
before_meeting : (profile : Profile) (it : FeatureRecord) (layer feature : ℕ) (parts : List (List Position)) (polygon : ℕ) (other : Fault) → HasRings it.kind it.geometry parts → ArePolygonRings parts → AreValidBefore profile parts polygon
    → IsFaultOfGeometryBy profile it layer feature other → ComesFirst (2 ∷ layer ∷ feature ∷ 3 ∷ polygon ∷ no_more) (place_of other)
before_meeting profile it layer feature parts polygon other has sound valid (command code index bad) = absurd (no_command_fault it parts (command_code code) index has bad)
before_meeting profile it layer feature parts polygon other has sound valid (ring code number of) =
    absurd (not_sound parts (ring_code code) number (of_these it parts (λ those. BreaksRings those (ring_code code) number) has of) sound)
before_meeting profile it layer feature parts polygon other has sound valid (meeting number first second x y w of) =
    by_polygon layer feature polygon number no_more no_more
    (meeting_at_least profile parts polygon number first second _ valid (of_these it parts (λ those. IsMeetingBy profile those number first second (record { x = x; y = y; w = w })) has of))
    (λ same. ComesFirst-reflexive no_more)
before_meeting profile it layer feature parts polygon other has sound valid (outside number hole vertex of) =
    by_polygon layer feature polygon number no_more (1 ∷ hole ∷ vertex ∷ 505 ∷ 0 ∷ [])
    (outside_at_least profile parts polygon number hole vertex valid (of_these it parts (λ those. IsVertexOutside those number hole vertex) has of))
    (λ same. inl (omega arith))
before_meeting profile it layer feature parts polygon other has sound valid (hole_in_hole number hole vertex another of) =
    by_polygon layer feature polygon number no_more (1 ∷ hole ∷ vertex ∷ 506 ∷ another ∷ [])
    (hole_at_least profile parts polygon number hole vertex another valid (of_these it parts (λ those. IsVertexInHole those number hole vertex another) has of))
    (λ same. inl (omega arith))
before_meeting profile it layer feature parts polygon other has sound valid (in_polygon number vertex another of) =
    by_polygon layer feature polygon number no_more (2 ∷ vertex ∷ 507 ∷ another ∷ 0 ∷ [])
    (in_polygon_at_least profile parts polygon number vertex another valid (of_these it parts (λ those. IsVertexInPolygonBy profile those number vertex another) has of))
    (λ same. inl (omega arith))

-- so it is the first fault of the feature's geometry
pub meeting_is_least : (profile : Profile) (parts : List (List Position)) (layer feature polygon : ℕ) (first second : RingEdge) (x y w : ℤ) → AreValidBefore profile parts polygon → IsMeetingBy profile parts polygon first second (record { x = x; y = y; w = w })
    → IsFirstOfRings profile parts layer feature (Meeting layer feature polygon first second x y w)
meeting_is_least profile parts layer feature polygon first second x y w valid meets it has = record {
  holds = meeting polygon first second x y w (parts, has, meets);
  least = λ other broken. before_meeting profile it layer feature parts polygon other has meets.of.sound valid broken;
}

-- Holes

-- no vertex that isn't where it should be comes before a place
pub record IsFirstHole (parts : List (List Position)) (its : PolygonRings) (place : List ℕ) : Type 0 where
  pub outside : (hole vertex : ℕ) → IsOutside parts its hole vertex → ComesFirst place (hole ∷ vertex ∷ 505 ∷ 0 ∷ [])
  pub in_hole : (hole vertex other : ℕ) → IsInHole parts its hole vertex other → ComesFirst place (hole ∷ vertex ∷ 506 ∷ other ∷ [])

-- the first such vertex of the first polygon that isn't valid comes before all other faults of its feature
before_hole : (profile : Profile) (it : FeatureRecord) (layer feature : ℕ) (parts : List (List Position)) (polygon : ℕ) (its : PolygonRings) (place : List ℕ) (other : Fault) → HasRings it.kind it.geometry parts → IsPolygonOf parts polygon its
    → AreValidBefore profile parts polygon → AreApartBy profile parts its → IsFirstHole parts its place → IsFaultOfGeometryBy profile it layer feature other → ComesFirst (2 ∷ layer ∷ feature ∷ 3 ∷ polygon ∷ 1 ∷ place) (place_of other)
before_hole profile it layer feature parts polygon its place other has of_it valid apart least (command code index bad) = absurd (no_command_fault it parts (command_code code) index has bad)
before_hole profile it layer feature parts polygon its place other has of_it valid apart least (ring code number of) =
    absurd (not_sound parts (ring_code code) number (of_these it parts (λ those. BreaksRings those (ring_code code) number) has of) of_it.sound)
before_hole profile it layer feature parts polygon its place other has of_it valid apart least (meeting number first second x y w of) =
    let point : RationalPoint = record { x = x; y = y; w = w } in
    let meets : IsMeetingBy profile parts number first second point = of_these it parts (λ those. IsMeetingBy profile those number first second point) has of in
    by_polygon layer feature polygon number (1 ∷ place) no_more (meeting_at_least profile parts polygon number first second point valid meets)
    (λ same. absurd (no_meeting profile parts polygon its first second point of_it.there apart (subst (λ (n : ℕ). IsMeetingBy profile parts n first second point) (sym same) meets)))
before_hole profile it layer feature parts polygon its place other has of_it valid apart least (outside number hole vertex of) =
    let its_vertex : IsVertexOutside parts number hole vertex = of_these it parts (λ those. IsVertexOutside those number hole vertex) has of in
    by_polygon layer feature polygon number (1 ∷ place) (1 ∷ hole ∷ vertex ∷ 505 ∷ 0 ∷ []) (outside_at_least profile parts polygon number hole vertex valid its_vertex)
    (λ same. inr (refl, least.outside hole vertex (vertex_outside parts polygon hole vertex its of_it.there (subst (λ (n : ℕ). IsVertexOutside parts n hole vertex) (sym same) its_vertex))))
before_hole profile it layer feature parts polygon its place other has of_it valid apart least (hole_in_hole number hole vertex another of) =
    let its_vertex : IsVertexInHole parts number hole vertex another = of_these it parts (λ those. IsVertexInHole those number hole vertex another) has of in
    by_polygon layer feature polygon number (1 ∷ place) (1 ∷ hole ∷ vertex ∷ 506 ∷ another ∷ []) (hole_at_least profile parts polygon number hole vertex another valid its_vertex)
    (λ same. inr (refl, least.in_hole hole vertex another (vertex_in_hole parts polygon hole vertex another its of_it.there (subst (λ (n : ℕ). IsVertexInHole parts n hole vertex another) (sym same) its_vertex))))
before_hole profile it layer feature parts polygon its place other has of_it valid apart least (in_polygon number vertex another of) =
    by_polygon layer feature polygon number (1 ∷ place) (2 ∷ vertex ∷ 507 ∷ another ∷ 0 ∷ [])
    (in_polygon_at_least profile parts polygon number vertex another valid (of_these it parts (λ those. IsVertexInPolygonBy profile those number vertex another) has of))
    (λ same. inl (omega arith))

-- the holes of the polygon are where they should be
pub record HasGoodHoles (parts : List (List Position)) (its : PolygonRings) : Type 0 where
  pub enclosed : (hole vertex : ℕ) → ¬ IsOutside parts its hole vertex
  pub side_by_side : (hole vertex other : ℕ) → ¬ IsInHole parts its hole vertex other

-- so it is the first fault of the feature's geometry: outside the exterior
pub outside_is_least : (profile : Profile) (parts : List (List Position)) (layer feature polygon hole vertex : ℕ) (its : PolygonRings) → IsPolygonOf parts polygon its → AreValidBefore profile parts polygon → AreApartBy profile parts its
    → IsOutside parts its hole vertex → IsFirstHole parts its (hole ∷ vertex ∷ 505 ∷ 0 ∷ []) → IsFirstOfRings profile parts layer feature (Outside layer feature polygon hole vertex)
outside_is_least profile parts layer feature polygon hole vertex its of_it valid apart wrong least it has = record {
  holds = outside polygon hole vertex (parts, has, record { polygon_rings = its; of = of_it; outside = wrong });
  least = λ other broken. before_hole profile it layer feature parts polygon its (hole ∷ vertex ∷ 505 ∷ 0 ∷ []) other has of_it valid apart least broken;
}

-- or inside another hole
pub in_hole_is_least : (profile : Profile) (parts : List (List Position)) (layer feature polygon hole vertex another : ℕ) (its : PolygonRings) → IsPolygonOf parts polygon its → AreValidBefore profile parts polygon → AreApartBy profile parts its
    → IsInHole parts its hole vertex another → IsFirstHole parts its (hole ∷ vertex ∷ 506 ∷ another ∷ []) → IsFirstOfRings profile parts layer feature (HoleInHole layer feature polygon hole vertex another)
in_hole_is_least profile parts layer feature polygon hole vertex another its of_it valid apart wrong least it has = record {
  holds = hole_in_hole polygon hole vertex another (parts, has, record { polygon_rings = its; of = of_it; inside = wrong });
  least = λ other broken. before_hole profile it layer feature parts polygon its (hole ∷ vertex ∷ 506 ∷ another ∷ []) other has of_it valid apart least broken;
}

-- Polygons in others

-- no vertex that is inside another polygon comes before these numbers
abbrev pub IsFirstVertex : Profile → List (List Position) → ℕ → List ℕ → Type 0
IsFirstVertex profile parts polygon place = (vertex other : ℕ) → IsVertexInPolygonBy profile parts polygon vertex other → ComesFirst place (vertex ∷ 507 ∷ other ∷ 0 ∷ [])

-- the first such vertex of the first polygon that isn't valid comes before all other faults of its feature, where the polygon
-- has no other fault
before_in_polygon : (profile : Profile) (it : FeatureRecord) (layer feature : ℕ) (parts : List (List Position)) (polygon : ℕ) (its : PolygonRings) (place : List ℕ) (other : Fault) → HasRings it.kind it.geometry parts → IsPolygonOf parts polygon its
    → AreValidBefore profile parts polygon → AreApartBy profile parts its → HasGoodHoles parts its → IsFirstVertex profile parts polygon place → IsFaultOfGeometryBy profile it layer feature other
    → ComesFirst (2 ∷ layer ∷ feature ∷ 3 ∷ polygon ∷ 2 ∷ place) (place_of other)
before_in_polygon profile it layer feature parts polygon its place other has of_it valid apart good least (command code index bad) = absurd (no_command_fault it parts (command_code code) index has bad)
before_in_polygon profile it layer feature parts polygon its place other has of_it valid apart good least (ring code number of) =
    absurd (not_sound parts (ring_code code) number (of_these it parts (λ those. BreaksRings those (ring_code code) number) has of) of_it.sound)
before_in_polygon profile it layer feature parts polygon its place other has of_it valid apart good least (meeting number first second x y w of) =
    let point : RationalPoint = record { x = x; y = y; w = w } in
    let meets : IsMeetingBy profile parts number first second point = of_these it parts (λ those. IsMeetingBy profile those number first second point) has of in
    by_polygon layer feature polygon number (2 ∷ place) no_more (meeting_at_least profile parts polygon number first second point valid meets)
    (λ same. absurd (no_meeting profile parts polygon its first second point of_it.there apart (subst (λ (n : ℕ). IsMeetingBy profile parts n first second point) (sym same) meets)))
before_in_polygon profile it layer feature parts polygon its place other has of_it valid apart good least (outside number hole vertex of) =
    let its_vertex : IsVertexOutside parts number hole vertex = of_these it parts (λ those. IsVertexOutside those number hole vertex) has of in
    by_polygon layer feature polygon number (2 ∷ place) (1 ∷ hole ∷ vertex ∷ 505 ∷ 0 ∷ []) (outside_at_least profile parts polygon number hole vertex valid its_vertex)
    (λ same. absurd (good.enclosed hole vertex (vertex_outside parts polygon hole vertex its of_it.there (subst (λ (n : ℕ). IsVertexOutside parts n hole vertex) (sym same) its_vertex))))
before_in_polygon profile it layer feature parts polygon its place other has of_it valid apart good least (hole_in_hole number hole vertex another of) =
    let its_vertex : IsVertexInHole parts number hole vertex another = of_these it parts (λ those. IsVertexInHole those number hole vertex another) has of in
    by_polygon layer feature polygon number (2 ∷ place) (1 ∷ hole ∷ vertex ∷ 506 ∷ another ∷ []) (hole_at_least profile parts polygon number hole vertex another valid its_vertex)
    (λ same. absurd (good.side_by_side hole vertex another (vertex_in_hole parts polygon hole vertex another its of_it.there (subst (λ (n : ℕ). IsVertexInHole parts n hole vertex another) (sym same) its_vertex))))
before_in_polygon profile it layer feature parts polygon its place other has of_it valid apart good least (in_polygon number vertex another of) =
    let its_vertex : IsVertexInPolygonBy profile parts number vertex another = of_these it parts (λ those. IsVertexInPolygonBy profile those number vertex another) has of in
    by_polygon layer feature polygon number (2 ∷ place) (2 ∷ vertex ∷ 507 ∷ another ∷ 0 ∷ []) (in_polygon_at_least profile parts polygon number vertex another valid its_vertex)
    (λ same. inr (refl, least vertex another (subst (λ (n : ℕ). IsVertexInPolygonBy profile parts n vertex another) (sym same) its_vertex)))

-- so it is the first fault of the feature's geometry
pub in_polygon_is_least : (profile : Profile) (parts : List (List Position)) (layer feature polygon vertex another : ℕ) (its : PolygonRings) → IsPolygonOf parts polygon its → AreValidBefore profile parts polygon → AreApartBy profile parts its
    → HasGoodHoles parts its → IsVertexInPolygonBy profile parts polygon vertex another → IsFirstVertex profile parts polygon (vertex ∷ 507 ∷ another ∷ 0 ∷ []) → IsFirstOfRings profile parts layer feature (InPolygon layer feature polygon vertex another)
in_polygon_is_least profile parts layer feature polygon vertex another its of_it valid apart good wrong least it has = record {
  holds = in_polygon polygon vertex another (parts, has, wrong);
  least = λ other broken. before_in_polygon profile it layer feature parts polygon its (vertex ∷ 507 ∷ another ∷ 0 ∷ []) other has of_it valid apart good least broken;
}

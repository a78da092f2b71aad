-- Where two edges of a polygon meet wrongly, at whatever rational point, there is a meeting that a fault can name.
use Rattle.std.proofs.Common.{◌≡◌, ◌≢◌, ℕ, ◌<◌, ◌≤◌, ◌⊎◌, inl, inr, List, length, Option, Some, None, sym, ap, ap₂, subst, arith}
use Rattle.std.proofs.lemmas.Bool.{cases_lt, cases_order}
use Rattle.std.proofs.lemmas.Option.{none-some, same_Some, slice_get_within}
use Rattle.mvt_fault.specs.declared.profile.Profile.{Profile}
use Rattle.mvt_fault.specs.declared.profile.Profile.TheVariants.{Polygon, Feature}
use Rattle.mvt_fault.specs.declared.ring.RingEdge.{RingEdge}
use Rattle.mvt_plane.proofs.Points.CommonPoints.{named_is_common}
use Rattle.mvt_plane.proofs.Points.NamedPoints.{named_is_bounded}
use Rattle.mvt_plane.proofs.Points.NamedWhereCommon.{common_is_named}
use Rattle.mvt_rules.proofs.Rings.PolygonNumbers.{polygon_of_ring}
use Rattle.mvt_plane.proofs.Rings.RingEdges.{ends_of_edge}
use Rattle.mvt_rules.proofs.Rings.EdgePairs.{meets_either_way, one_shared_vertex}
use Rattle.mvt_plane.proofs.Spelling.SpelledRings.{three_vertices, vertices_in_range}
use Rattle.mvt_plane.specs.Geometry.CommonPoint.{IsCommon}
use Rattle.mvt_plane.specs.FeatureGeometry.{HasRings}
use Rattle.mvt_rules.specs.Meeting.{ComesBefore, IsEdgeOf, IsShared, MeetsWrongly}
use Rattle.mvt_rules.specs.Polygon.{PolygonRings, IsPolygon, IsRingOf}
use Rattle.mvt_plane.specs.Position.{Position, IsPosition}
use Rattle.mvt_plane.specs.Geometry.RationalPoint.{RationalPoint, IsAt, IsBounded}
use Rattle.mvt_plane.specs.Geometry.Ring.{next_round}
use Rattle.mvt_rules.specs.Ring.{ArePolygonRings}
use Rattle.mvt_plane.specs.declared.geometry.edge.Edge.{Edge}
use Rattle.mvt_rules.specs.PolygonFault.{IsPolygonOf, IsMeetingBy}
use Rattle.mvt_rules.specs.Profiles.{IsKeptApart}

-- both ends of an edge of spelled rings are in range
edge_in_range : (kind : ℕ) (numbers : List ℕ) (parts : List (List Position)) (number : RingEdge) (edge : Edge) → HasRings kind numbers parts → IsEdgeOf parts number edge → IsPosition edge.a × IsPosition edge.b
edge_in_range kind numbers parts number edge has it =
    let ends = ends_of_edge it.ring number.edge edge it.here in (
      vertices_in_range parts numbers number.ring number.edge it.ring edge.a has.spelled it.there ends.0,
      vertices_in_range parts numbers number.ring (next_round (length it.ring) number.edge) it.ring edge.b has.spelled it.there ends.1,
    )

-- two edges meet wrongly at a point in range
record MeetInRange (parts : List (List Position)) (first second : RingEdge) : Type 0 where
  pub point : RationalPoint
  pub bounded : IsBounded point
  pub meets : MeetsWrongly parts first second point

-- so they do at the point that is named, if they share no other vertex than the one that it is to avoid
at_named_point : (kind : ℕ) (numbers : List ℕ) (parts : List (List Position)) (first second : RingEdge) (shared : Option Position) (point : RationalPoint) → HasRings kind numbers parts
    → (meets : MeetsWrongly parts first second point) → IsCommon shared meets.one meets.other point
    → ((vertex : Position) → IsShared parts first second vertex → shared ≡ Some vertex) → MeetInRange parts first second
at_named_point kind numbers parts first second shared point has meets common only =
    let named = common_is_named shared meets.one meets.other point common in
    let there : IsCommon shared meets.one meets.other named.0 = named_is_common shared meets.one meets.other named.0 named.1 in
    let one = edge_in_range kind numbers parts first meets.one has meets.one_there in
    let other = edge_in_range kind numbers parts second meets.other has meets.other_there in
    record {
      point = named.0;
      bounded = named_is_bounded shared meets.one meets.other named.0 one.0 one.1 other.0 other.1 named.1;
      meets = record {
        different = meets.different;
        one = meets.one;
        one_there = meets.one_there;
        other = meets.other;
        other_there = meets.other_there;
        on_one = there.on_first;
        on_other = there.on_second;
        forbidden = λ vertex is_shared. there.apart vertex (only vertex is_shared);
      };
    }

-- so neighbours that meet wrongly at all do so in range
neighbours_in_range : (kind : ℕ) (numbers : List ℕ) (parts : List (List Position)) (first second : RingEdge) (vertex : Position) (point : RationalPoint) → HasRings kind numbers parts
    → MeetsWrongly parts first second point → IsShared parts first second vertex → MeetInRange parts first second
neighbours_in_range kind numbers parts first second vertex point has meets shared =
    at_named_point kind numbers parts first second (Some vertex) point has meets
    (record { on_first = meets.on_one; on_second = meets.on_other; apart = λ other same. subst (λ (v : Position). ¬ IsAt point v) (same_Some vertex other same) (meets.forbidden vertex shared) })
    (λ other other_shared. ap Some (one_shared_vertex parts first second meets.one_there.ring vertex other meets.one_there.there several shared other_shared))
  where
    several : 2 < length meets.one_there.ring
    several = three_vertices parts numbers first.ring meets.one_there.ring has.spelled meets.one_there.there

-- and so do other edges
others_in_range : (kind : ℕ) (numbers : List ℕ) (parts : List (List Position)) (first second : RingEdge) (point : RationalPoint) → HasRings kind numbers parts
    → MeetsWrongly parts first second point → ((vertex : Position) → ¬ IsShared parts first second vertex) → MeetInRange parts first second
others_in_range kind numbers parts first second point has meets none =
    at_named_point kind numbers parts first second None point has meets
    (record { on_first = meets.on_one; on_second = meets.on_other; apart = λ vertex same. absurd (none-some vertex same) })
    (λ vertex shared. absurd (none vertex shared))

-- so it can't be that two edges don't, whether they are neighbours or not
not_in_range : (kind : ℕ) (numbers : List ℕ) (parts : List (List Position)) (first second : RingEdge) (point : RationalPoint) → HasRings kind numbers parts
    → MeetsWrongly parts first second point → ¬ MeetInRange parts first second → ⊥
not_in_range kind numbers parts first second point has meets none =
    none (others_in_range kind numbers parts first second point has meets
    (λ vertex shared. none (neighbours_in_range kind numbers parts first second vertex point has meets shared)))

-- Two edges in order

-- two different edges come before each other one way or the other
in_order : (first second : RingEdge) → first ≢ second → ComesBefore first second ⊎ ComesBefore second first
in_order first second different = by_ring (cases_order first.ring second.ring)
  where
    by_edge : first.ring ≡ second.ring → (first.edge ≡ second.edge) ⊎ ((first.edge < second.edge) ⊎ (second.edge < first.edge)) → ComesBefore first second ⊎ ComesBefore second first
    by_edge ring (inl edge) = absurd (different (ap₂ (λ (r e : ℕ). record { ring = r; edge = e }) ring edge))
    by_edge ring (inr (inl before)) = inl (inr (ring, before))
    by_edge ring (inr (inr following)) = inr (inr (sym ring, following))

    by_ring : (first.ring ≡ second.ring) ⊎ ((first.ring < second.ring) ⊎ (second.ring < first.ring)) → ComesBefore first second ⊎ ComesBefore second first
    by_ring (inl ring) = by_edge ring (cases_order first.edge second.edge)
    by_ring (inr (inl before)) = inl (inl before)
    by_ring (inr (inr following)) = inr (inl following)

-- where the second edge's ring isn't after the first one's, they are kept apart the other way round too
kept_back : (profile : Profile) (it : PolygonRings) (first second : ℕ) → IsKeptApart profile it first → IsRingOf it second → second ≤ first → IsKeptApart profile it second × IsRingOf it first
kept_back Polygon it first second kept of following = (of, kept)
kept_back Feature it first second kept of following = let from = of.from in (of.before, record { from = omega arith; before = kept })

-- edges in order are of rings in order
pub rings_in_order : (first second : RingEdge) → ComesBefore first second → first.ring ≤ second.ring
rings_in_order first second (inl before) = omega arith
rings_in_order first second (inr within) = let same = within.0 in omega arith

-- edges that are kept apart, in order, that have no meeting don't meet wrongly
none_in_order : (profile : Profile) (kind : ℕ) (numbers : List ℕ) (parts : List (List Position)) (polygon : ℕ) (it : PolygonRings) (first second : RingEdge) (point : RationalPoint) → HasRings kind numbers parts → IsPolygonOf parts polygon it
    → ((one other : RingEdge) (at : RationalPoint) → ¬ IsMeetingBy profile parts polygon one other at)
    → IsKeptApart profile it first.ring → IsRingOf it second.ring → ComesBefore first second → ¬ MeetsWrongly parts first second point
none_in_order profile kind numbers parts polygon it first second point has of none first_in second_in before meets =
    not_in_range kind numbers parts first second point has meets
    (λ found. none first second found.point (record {
      polygon_rings = it;
      of = of;
      first_in = first_in;
      second_in = second_in;
      in_order = before;
      bounded = found.bounded;
      meets = found.meets;
    }))

-- so none of these edges do
pub none_meets : (profile : Profile) (kind : ℕ) (numbers : List ℕ) (parts : List (List Position)) (polygon : ℕ) (it : PolygonRings) (first second : RingEdge) (point : RationalPoint) → HasRings kind numbers parts → IsPolygonOf parts polygon it
    → ((one other : RingEdge) (at : RationalPoint) → ¬ IsMeetingBy profile parts polygon one other at)
    → IsKeptApart profile it first.ring → IsRingOf it second.ring → ¬ MeetsWrongly parts first second point
none_meets profile kind numbers parts polygon it first second point has of none first_in second_in meets = elim (in_order first second meets.different) [
  | inl before ↦ none_in_order profile kind numbers parts polygon it first second point has of none first_in second_in before meets
  | inr following ↦
      let back = kept_back profile it first.ring second.ring first_in second_in (rings_in_order second first following) in
      none_in_order profile kind numbers parts polygon it second first point has of none back.0 back.1 following (meets_either_way parts first second point meets)
]

-- All rings of a feature

-- where the edges that each polygon is kept apart from don't meet wrongly, no two edges do, in order of their rings
apart_in_order : (rings : List (List Position)) → ArePolygonRings rings
    → ((polygon : ℕ) (it : PolygonRings) → IsPolygon rings polygon it → (first second : RingEdge) (point : RationalPoint) → IsKeptApart Feature it first.ring → IsRingOf it second.ring → ¬ MeetsWrongly rings first second point)
    → (first second : RingEdge) (point : RationalPoint) → first.ring ≤ second.ring → ¬ MeetsWrongly rings first second point
apart_in_order rings sound apart first second point before meets =
    let home = polygon_of_ring rings second.ring sound (slice_get_within rings second.ring meets.other_there.ring meets.other_there.there) in
    let ends = home.3.before in
    apart home.0 home.1 home.2 first second point (omega arith) home.3 meets

-- nor in any order
pub all_apart : (rings : List (List Position)) → ArePolygonRings rings
    → ((polygon : ℕ) (it : PolygonRings) → IsPolygon rings polygon it → (first second : RingEdge) (point : RationalPoint) → IsKeptApart Feature it first.ring → IsRingOf it second.ring → ¬ MeetsWrongly rings first second point)
    → (first second : RingEdge) (point : RationalPoint) → ¬ MeetsWrongly rings first second point
all_apart rings sound apart first second point meets = elim (cases_lt second.ring first.ring) [
  | inl following ↦ apart_in_order rings sound apart second first point (omega arith) (meets_either_way rings first second point meets)
  | inr before ↦ apart_in_order rings sound apart first second point before meets
]

-- Rings that are copies of some of a feature's rings, in their order: what is said of the copies is said of those rings.
use Rattle.std.proofs.Common.{◌≡◌, ℕ, ◌+◌, ◌<◌, ◌≤◌, inl, inr, List, length, slice_get, sym, ◌∙◌, ap, arith}
use Rattle.std.proofs.lemmas.Bool.{cases_order}
use Rattle.std.proofs.lemmas.Option.{slice_get_within}
use Rattle.mvt_rules.proofs.Rings.PartsOfRings.{ring_of_part, count_of_part}
use Rattle.mvt_rules.specs.Meeting.{ComesBefore, IsEdgeOf, Follows, IsShared, forward, backward, MeetsWrongly}
use Rattle.mvt_fault.specs.declared.ring.RingEdge.{RingEdge}
use Rattle.mvt_rules.specs.Parts.Rings.{part_of}
use Rattle.mvt_rules.specs.Polygon.{PolygonRings}
use Rattle.mvt_plane.specs.Position.{Position}
use Rattle.mvt_plane.specs.Geometry.RationalPoint.{RationalPoint}
use Rattle.mvt_plane.specs.declared.geometry.edge.Edge.{Edge}
use Rattle.mvt_feature.specs.Feature.{front_of}
use Rattle.mvt_polygon.specs.InFeature.{meeting_moved}
use Rattle.mvt_sweep.specs.Meeting.{IsMeetingOf, NoMeeting, first_of, second_of}
use Rattle.mvt_sweep.specs.declared.meeting.Meeting.{Meeting}

-- each of these rings is a copy of the one at its place, and the places are in order
pub record AreCopies (parts rings : List (List Position)) (place : ℕ → ℕ) : Type 0 where
  pub same : (ring : ℕ) → ring < length parts → slice_get parts ring ≡ slice_get rings (place ring)
  pub in_order : (ring other : ℕ) → ring < other → other < length parts → place ring < place other

-- the number of an edge at the place of its ring
abbrev pub edge_moved : (ℕ → ℕ) → RingEdge → RingEdge
edge_moved place number = record { ring = place number.ring; edge = number.edge }

module _ (parts rings : List (List Position)) (place : ℕ → ℕ) (copies : AreCopies parts rings place) where
  -- an edge's ring is one of the rings
  pub ring_within : (number : RingEdge) (edge : Edge) → IsEdgeOf parts number edge → number.ring < length parts
  ring_within number edge there = slice_get_within parts number.ring there.ring there.there

  -- two rings of one place are one
  one_ring : (ring other : ℕ) → ring < length parts → other < length parts → place ring ≡ place other → ring ≡ other
  one_ring ring other within other_within same = elim (cases_order ring other) [
    | inl one ↦ one
    | inr apart ↦ elim apart [
      | inl less ↦ absurd (omega (arith, copies.in_order ring other less other_within))
      | inr more ↦ absurd (omega (arith, copies.in_order other ring more within))
    ]
  ]

  -- an edge
  edge_there : (number : RingEdge) (edge : Edge) → IsEdgeOf parts number edge → IsEdgeOf rings (edge_moved place number) edge
  edge_there number edge there = record {
    ring = there.ring;
    there = sym (copies.same number.ring (ring_within number edge there)) ∙ there.there;
    here = there.here;
  }

  -- and back
  edge_back : (number : RingEdge) (edge : Edge) → number.ring < length parts → IsEdgeOf rings (edge_moved place number) edge → IsEdgeOf parts number edge
  edge_back number edge within there = record { ring = there.ring; there = copies.same number.ring within ∙ there.there; here = there.here }

  -- one that follows another
  follows_there : (first second : RingEdge) (vertex : Position) → first.ring < length parts → Follows parts first second vertex → Follows rings (edge_moved place first) (edge_moved place second) vertex
  follows_there first second vertex within follows = record {
    ring = follows.ring;
    there = sym (copies.same first.ring within) ∙ follows.there;
    same = ap place follows.same;
    next = follows.next;
    between = follows.between;
  }

  -- and back
  follows_back : (first second : RingEdge) (vertex : Position) → first.ring < length parts → second.ring < length parts → Follows rings (edge_moved place first) (edge_moved place second) vertex → Follows parts first second vertex
  follows_back first second vertex within second_within follows = record {
    ring = follows.ring;
    there = copies.same first.ring within ∙ follows.there;
    same = one_ring second.ring first.ring second_within within follows.same;
    next = follows.next;
    between = follows.between;
  }

  -- neighbours
  shared_there : (first second : RingEdge) (vertex : Position) → first.ring < length parts → second.ring < length parts → IsShared parts first second vertex → IsShared rings (edge_moved place first) (edge_moved place second) vertex
  shared_there first second vertex within second_within (forward follows) = forward (follows_there first second vertex within follows)
  shared_there first second vertex within second_within (backward follows) = backward (follows_there second first vertex second_within follows)

  -- and back
  shared_back : (first second : RingEdge) (vertex : Position) → first.ring < length parts → second.ring < length parts → IsShared rings (edge_moved place first) (edge_moved place second) vertex → IsShared parts first second vertex
  shared_back first second vertex within second_within (forward follows) = forward (follows_back first second vertex within second_within follows)
  shared_back first second vertex within second_within (backward follows) = backward (follows_back second first vertex second_within within follows)

  -- numbers that are one at their places
  one_number : (first second : RingEdge) → first.ring < length parts → second.ring < length parts → edge_moved place first ≡ edge_moved place second → first ≡ second
  one_number first second within second_within same =
      let ring : first.ring ≡ second.ring = one_ring first.ring second.ring within second_within (ap (λ (number : RingEdge). number.ring) same) in
      let edge : first.edge ≡ second.edge = ap (λ (number : RingEdge). number.edge) same in
      λ i. record { ring = ring i; edge = edge i }

  -- a wrong meeting
  pub meets_there : (first second : RingEdge) (point : RationalPoint) → MeetsWrongly parts first second point → MeetsWrongly rings (edge_moved place first) (edge_moved place second) point
  meets_there first second point meets =
      let within = ring_within first meets.one meets.one_there in
      let second_within = ring_within second meets.other meets.other_there in
      record {
        different = λ same. meets.different (one_number first second within second_within same);
        one = meets.one;
        one_there = edge_there first meets.one meets.one_there;
        other = meets.other;
        other_there = edge_there second meets.other meets.other_there;
        on_one = meets.on_one;
        on_other = meets.on_other;
        forbidden = λ vertex shared. meets.forbidden vertex (shared_back first second vertex within second_within shared);
      }

  -- and back
  pub meets_back : (first second : RingEdge) (point : RationalPoint) → first.ring < length parts → second.ring < length parts → MeetsWrongly rings (edge_moved place first) (edge_moved place second) point → MeetsWrongly parts first second point
  meets_back first second point within second_within meets = record {
    different = λ same. meets.different (ap (edge_moved place) same);
    one = meets.one;
    one_there = edge_back first meets.one within meets.one_there;
    other = meets.other;
    other_there = edge_back second meets.other second_within meets.other_there;
    on_one = meets.on_one;
    on_other = meets.on_other;
    forbidden = λ vertex shared. meets.forbidden vertex (shared_there first second vertex within second_within shared);
  }

  -- where no edges of the rings meet wrongly, none of the copies do
  pub none_meet : NoMeeting rings → NoMeeting parts
  none_meet none first second point meets = none (edge_moved place first) (edge_moved place second) point (meets_there first second point meets)

  -- the order of edges
  before_there : (first second : RingEdge) → second.ring < length parts → ComesBefore first second → ComesBefore (edge_moved place first) (edge_moved place second)
  before_there first second within (inl less) = inl (copies.in_order first.ring second.ring less within)
  before_there first second within (inr same) = inr (ap place same.0, same.1)

  -- a meeting that is answered
  pub meeting_there : (meeting : Meeting) → IsMeetingOf parts meeting → IsMeetingOf rings (meeting_moved place meeting)
  meeting_there meeting meets =
      let within = ring_within (first_of meeting) meets.one meets.one_there in
      let second_within = ring_within (second_of meeting) meets.other meets.other_there in
      record {
        in_order = before_there (first_of meeting) (second_of meeting) second_within meets.in_order;
        meets = meets_there (first_of meeting) (second_of meeting) meeting.point meets.meets;
        bounded = meets.bounded;
        one = meets.one;
        one_there = edge_there (first_of meeting) meets.one meets.one_there;
        other = meets.other;
        other_there = edge_there (second_of meeting) meets.other meets.other_there;
        shared = meets.shared;
        is_shared = λ vertex. (
          λ is. shared_there (first_of meeting) (second_of meeting) vertex within second_within ((meets.is_shared vertex).0 is),
          λ is. (meets.is_shared vertex).1 (shared_back (first_of meeting) (second_of meeting) vertex within second_within is),
        );
        named = meets.named;
      }

-- Parts of a feature's rings

-- the rings of a polygon are copies of the rings from its exterior on
pub part_copies : (rings : List (List Position)) (it : PolygonRings) → it.after ≤ length rings → AreCopies (part_of rings it) rings (λ (ring : ℕ). it.exterior + ring)
part_copies rings it within =
    let count = count_of_part rings it within in
    record { same = λ ring less. ring_of_part rings it ring (omega arith); in_order = λ ring other less _. omega arith }

-- the rings up to a polygon's last one are copies of those rings
pub front_copies : (rings : List (List Position)) (it : PolygonRings) → it.after ≤ length rings → AreCopies (part_of rings (front_of it)) rings (λ (ring : ℕ). ring)
front_copies rings it within =
    let count = count_of_part rings (front_of it) within in
    record { same = λ ring less. ring_of_part rings (front_of it) ring (omega arith) ∙ ap (slice_get rings) (omega arith); in_order = λ ring other less _. less }

-- and there are so many
pub count_of_front : (rings : List (List Position)) (it : PolygonRings) → it.after ≤ length rings → length (part_of rings (front_of it)) ≡ it.after
count_of_front rings it within = count_of_part rings (front_of it) within ∙ (omega arith)

-- the rings of a polygon are copies of those in the rings up to its last one
pub part_of_front_copies : (rings : List (List Position)) (it : PolygonRings) → it.exterior < it.after → it.after ≤ length rings → AreCopies (part_of rings it) (part_of rings (front_of it)) (λ (ring : ℕ). it.exterior + ring)
part_of_front_copies rings it further within =
    let count = count_of_part rings it within in
    let all = count_of_front rings it within in
    record {
      same = λ ring less. (part_copies rings it within).same ring less ∙ sym ((front_copies rings it within).same (it.exterior + ring) (omega arith));
      in_order = λ ring other less _. omega arith;
    }

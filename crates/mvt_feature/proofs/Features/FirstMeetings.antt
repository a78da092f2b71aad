-- Wrong meetings of edges of the first rings of a feature.
use Rattle.std.proofs.Common.{◌≡◌, ℕ, ◌-◌, ◌<◌, ◌≤◌, List, length, slice_get, take, Vec, sym, ◌∙◌, ap, subst, arith}
use Rattle.std.proofs.lemmas.List.{take-map}
use Rattle.std.proofs.lemmas.Option.{slice_get_within}
use Rattle.std.specs.declared.alloc.Global.{Global}
use Rattle.mvt_rules.specs.Meeting.{Follows, IsEdgeOf, IsShared, forward, backward, MeetsWrongly}
use Rattle.mvt_fault.specs.declared.ring.RingEdge.{RingEdge}
use Rattle.mvt_rules.proofs.Validity.UnshownMeetings.{rings_in_order}
use Rattle.mvt_rules.specs.Parts.Rings.{part_of}
use Rattle.mvt_rules.specs.Polygon.{PolygonRings}
use Rattle.mvt_plane.specs.Position.{Position}
use Rattle.mvt_plane.specs.Geometry.RationalPoint.{RationalPoint}
use Rattle.mvt_plane.specs.declared.geometry.edge.Edge.{Edge}
use Rattle.mvt_feature.specs.Feature.{front_of}
use Rattle.mvt_sweep.specs.Meeting.{first_of, second_of, IsMeetingOf, NoMeeting}
use Rattle.mvt_sweep.specs.Rings.{rings_of}
use Rattle.mvt_sweep.specs.declared.meeting.Meeting.{Meeting}
use Rattle.mvt_feature.proofs.Features.FirstRings.{in_first, of_first}

-- Two lists of rings whose first rings are the same

-- the rings before this number are the same
abbrev pub AreSame : List (List Position) → List (List Position) → ℕ → Type 0
AreSame rings others bound = (ring : ℕ) → ring < bound → slice_get others ring ≡ slice_get rings ring

-- an edge of them
edge_there : (rings others : List (List Position)) (bound : ℕ) (number : RingEdge) (edge : Edge) → AreSame rings others bound → number.ring < bound → IsEdgeOf rings number edge → IsEdgeOf others number edge
edge_there rings others bound number edge same within there = record { ring = there.ring; there = same number.ring within ∙ there.there; here = there.here }

-- an edge that follows another
follows_there : (rings others : List (List Position)) (bound : ℕ) (first second : RingEdge) (vertex : Position) → AreSame rings others bound → first.ring < bound → Follows rings first second vertex → Follows others first second vertex
follows_there rings others bound first second vertex same within follows =
    record { ring = follows.ring; there = same first.ring within ∙ follows.there; same = follows.same; next = follows.next; between = follows.between }

-- the vertex that neighbours share
shared_there : (rings others : List (List Position)) (bound : ℕ) (first second : RingEdge) (vertex : Position) → AreSame rings others bound → first.ring < bound → second.ring < bound → IsShared rings first second vertex → IsShared others first second vertex
shared_there rings others bound first second vertex same first_within second_within (forward follows) = forward (follows_there rings others bound first second vertex same first_within follows)
shared_there rings others bound first second vertex same first_within second_within (backward follows) = backward (follows_there rings others bound second first vertex same second_within follows)

-- the same the other way round
back : (rings others : List (List Position)) (bound : ℕ) → AreSame rings others bound → AreSame others rings bound
back rings others bound same ring within = sym (same ring within)

-- a wrong meeting
pub meets_there : (rings others : List (List Position)) (bound : ℕ) (first second : RingEdge) (point : RationalPoint) → AreSame rings others bound → first.ring < bound → second.ring < bound → MeetsWrongly rings first second point → MeetsWrongly others first second point
meets_there rings others bound first second point same first_within second_within meets = record {
  different = meets.different;
  one = meets.one;
  one_there = edge_there rings others bound first meets.one same first_within meets.one_there;
  other = meets.other;
  other_there = edge_there rings others bound second meets.other same second_within meets.other_there;
  on_one = meets.on_one;
  on_other = meets.on_other;
  forbidden = λ vertex shared. meets.forbidden vertex (shared_there others rings bound first second vertex (back rings others bound same) first_within second_within shared);
}

-- the meeting that is reported
pub meeting_there : (rings others : List (List Position)) (bound : ℕ) (meeting : Meeting) → AreSame rings others bound → meeting.second_ring < bound → IsMeetingOf rings meeting → IsMeetingOf others meeting
meeting_there rings others bound meeting same within meets =
    let first = first_of meeting in
    let second = second_of meeting in
    let in_order : first.ring ≤ second.ring = rings_in_order first second meets.in_order in
    let first_within : first.ring < bound = omega arith in
    record {
      in_order = meets.in_order;
      meets = meets_there rings others bound first second meeting.point same first_within within meets.meets;
      bounded = meets.bounded;
      one = meets.one;
      one_there = edge_there rings others bound first meets.one same first_within meets.one_there;
      other = meets.other;
      other_there = edge_there rings others bound second meets.other same within meets.other_there;
      shared = meets.shared;
      is_shared = λ vertex. (
        λ is. shared_there rings others bound first second vertex same first_within within ((meets.is_shared vertex).0 is),
        λ shared. (meets.is_shared vertex).1 (shared_there others rings bound first second vertex (back rings others bound same) first_within within shared),
      );
      named = meets.named;
    }

-- The first rings

-- the front of a polygon
pub front_is_first : (rings : List (List Position)) (it : PolygonRings) → part_of rings (front_of it) ≡ take it.after rings
front_is_first rings it = let size : it.after - 0 ≡ it.after = omega arith in ap (λ (n : ℕ). take n rings) size

-- a meeting of the first rings is one of fewer, where its second ring is among them
pub meeting_of_fewer : (rings : List (List Position)) (count fewer : ℕ) (meeting : Meeting) → fewer ≤ count → meeting.second_ring < fewer → IsMeetingOf (take count rings) meeting → IsMeetingOf (take fewer rings) meeting
meeting_of_fewer rings count fewer meeting no_more within meets =
    meeting_there (take count rings) (take fewer rings) fewer meeting (λ ring before. in_first fewer rings ring before ∙ sym (in_first count rings ring (omega arith))) within meets

-- or of the front of a polygon
pub meeting_of_its_front : (rings : List (List Position)) (count : ℕ) (it : PolygonRings) (meeting : Meeting) → it.after ≤ count → meeting.second_ring < it.after → IsMeetingOf (take count rings) meeting → IsMeetingOf (part_of rings (front_of it)) meeting
meeting_of_its_front rings count it meeting no_more within meets =
    subst (λ (parts : List (List Position)). IsMeetingOf parts meeting) (sym (front_is_first rings it)) (meeting_of_fewer rings count it.after meeting no_more within meets)

-- also from all rings
pub meeting_of_all : (rings : List (List Position)) (it : PolygonRings) (meeting : Meeting) → meeting.second_ring < it.after → IsMeetingOf rings meeting → IsMeetingOf (part_of rings (front_of it)) meeting
meeting_of_all rings it meeting within meets =
    subst (λ (parts : List (List Position)). IsMeetingOf parts meeting) (sym (front_is_first rings it))
    (meeting_there rings (take it.after rings) it.after meeting (λ ring before. in_first it.after rings ring before) within meets)

-- where no edges of the first rings meet, none of fewer do
pub none_of_fewer : (rings : List (List Position)) (count fewer : ℕ) → fewer ≤ count → NoMeeting (take count rings) → NoMeeting (take fewer rings)
none_of_fewer rings count fewer no_more none first second point meets =
    let one_within : first.ring < fewer = (of_first fewer rings first.ring meets.one_there.ring meets.one_there.there).0 in
    let other_within : second.ring < fewer = (of_first fewer rings second.ring meets.other_there.ring meets.other_there.there).0 in
    none first second point
    (meets_there (take fewer rings) (take count rings) fewer first second point (λ ring before. in_first count rings ring (omega arith) ∙ sym (in_first fewer rings ring before)) one_within other_within meets)

-- so none of the front of a polygon that ends there
pub none_of_its_front : (rings : List (List Position)) (count : ℕ) (it : PolygonRings) → it.after ≤ count → NoMeeting (take count rings) → NoMeeting (part_of rings (front_of it))
none_of_its_front rings count it no_more none = subst NoMeeting (sym (front_is_first rings it)) (none_of_fewer rings count it.after no_more none)

-- the second ring of a meeting is one of the rings
pub second_within : (rings : List (List Position)) (meeting : Meeting) → IsMeetingOf rings meeting → meeting.second_ring < length rings
second_within rings meeting meets = slice_get_within rings meeting.second_ring meets.other_there.ring meets.other_there.there

-- where no edges of the first rings meet, the second ring of a meeting isn't one of them
pub second_after : (rings : List (List Position)) (count clear : ℕ) (meeting : Meeting) → clear ≤ count → NoMeeting (take clear rings) → IsMeetingOf (take count rings) meeting → ¬ (meeting.second_ring < clear)
second_after rings count clear meeting no_more none meets before =
    let fewer = meeting_of_fewer rings count clear meeting no_more before meets in
    none (first_of meeting) (second_of meeting) meeting.point fewer.meets

-- A slice, as the code reads it

-- the first lists of vertices are the first rings
pub first_slice : (rings : List (Vec Position Global)) (count : ℕ) → rings_of (take count rings) ≡ take count (rings_of rings)
first_slice rings count = sym (take-map (λ (ring : Vec Position Global). ring.items) count rings)

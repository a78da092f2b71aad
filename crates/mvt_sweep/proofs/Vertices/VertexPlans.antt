-- The vertices of rings as a plan of a sweep, and what follows for the rings from what the sweep finds of the vertices.
use Rattle.std.proofs.Common.{◌≡◌, ◌≢◌, ℕ, ◌+◌, ◌<◌, ◌⊎◌, ◌==◌, inl, inr, List, length, take, slice_get, Option, Some, None, IfNone, IfSome, refl, sym, ◌∙◌, ap, ap₂, subst, arith}
use Rattle.std.proofs.lemmas.Bool.{cases_eq, cond-true, cond-false, eq-eqb, ne_eqb}
use Rattle.std.proofs.lemmas.Option.{same_Some, none-some, get_or_from_slice_get}
use Rattle.mvt_plane.specs.Geometry.CommonPoint.{IsNamed}
use Rattle.mvt_plane.specs.Geometry.EdgeOrder.{Segment, segment}
use Rattle.mvt_plane.specs.Calls.EdgeOrder.{IsEndOf, edge_along}
use Rattle.mvt_rules.specs.Meeting.{IsEdgeOf, IsShared, Follows, forward, backward, MeetsWrongly}
use Rattle.mvt_fault.specs.declared.ring.RingEdge.{RingEdge}
use Rattle.mvt_plane.specs.Position.{Position}
use Rattle.mvt_plane.specs.Geometry.RationalPoint.{RationalPoint, IsBounded, LiesOn, whole}
use Rattle.mvt_plane.specs.Geometry.Ring.{next_round}
use Rattle.mvt_plane.specs.declared.geometry.edge.Edge.{Edge}
use Rattle.mvt_plane.proofs.Points.CommonPoints.{named_is_common, only_at_the_shared_vertex}
use Rattle.mvt_plane.proofs.Points.RationalPoints.{lies_on_reversed, begin_lies_on}
use Rattle.mvt_sweep.specs.Calls.VertexOrder.{AreTogether}
use Rattle.mvt_sweep.specs.Calls.SweepVertices.{AreSweepVertices, IsListOf, IsNamedFor, IsNumbered, IsPointOf, NoneWrong, sweep_vertex_at, sweep_count, edge_at, next_at, plan_of, position_at, shared_at}
use Rattle.mvt_sweep.specs.Work.{vertex_count}
use Rattle.mvt_sweep.specs.Calls.Links.{AreLinked, next_in, position_in, previous_in}
use Rattle.mvt_sweep.specs.Meeting.{IsMeetingOf, first_of, second_of}
use Rattle.mvt_sweep.specs.Rings.{AreProperRings}
use Rattle.mvt_sweep.specs.Calls.Sweep.{IsPlan, Tested}
use Rattle.mvt_sweep.specs.TurnVertices.{previous_round}
use Rattle.mvt_sweep.specs.declared.meeting.Meeting.{Meeting}
use Rattle.mvt_sweep.specs.declared.sweep.vertex.SweepVertex.{SweepVertex}
use Rattle.mvt_sweep.specs.declared.sweep.vertices.SweepVertices.{SweepVertices}
use Rattle.mvt_sweep.specs.declared.sweep.vertices.Pair.{Pair}
use Rattle.mvt_sweep.proofs.Vertices.VertexNumbers.{IsVertex, sweep_vertex_there, vertex_at, numbered_within, one_place, in_order, next_within, previous_within, next_previous, previous_next, next_but_one}
use Rattle.mvt_sweep.proofs.Vertices.EdgeNumbers.{edge_read, within_ring}
use Rattle.mvt_sweep.proofs.Vertices.SegmentEnds.{up, down, between_them, rising_between, end_first, end_second}
use Rattle.mvt_sweep.proofs.Vertices.PairMeetings.{AreSharing, meeting_by_name}
use Rattle.mvt_sweep.proofs.Vertices.SharedVertices.{follows_next, only_shared, none_in_two_rings, none_apart, none_is_shared}
use Rattle.mvt_rules.proofs.Rings.EdgePairs.{one_edge}

-- Vertices are linked

-- the vertex after one, in the ring
abbrev pub next_place : RingEdge → List Position → RingEdge
next_place place ring = record { ring = place.ring; edge = next_round (length ring) place.edge }

-- and the one before it
abbrev pub previous_place : RingEdge → List Position → RingEdge
previous_place place ring = record { ring = place.ring; edge = previous_round (length ring) place.edge }

-- the sweep's vertex after a vertex is the next one of its ring
pub next_numbered : (rings : List (List Position)) (vertices : List SweepVertex) (number : ℕ) (place : RingEdge) → AreProperRings rings → IsListOf rings vertices
    → (is : IsNumbered rings number place)
    → IsNumbered rings (next_in vertices number) (next_place place is.ring)
next_numbered rings vertices number place proper are is = record {
  ring = is.ring;
  there = is.there;
  within = next_within (length is.ring) place.edge is.within;
  numbered = (vertex_at rings vertices number place proper are is).next;
}

-- the one before it the previous vertex
pub previous_numbered : (rings : List (List Position)) (vertices : List SweepVertex) (number : ℕ) (place : RingEdge) → AreProperRings rings → IsListOf rings vertices
    → (is : IsNumbered rings number place)
    → IsNumbered rings (previous_in vertices number) (previous_place place is.ring)
previous_numbered rings vertices number place proper are is = record {
  ring = is.ring;
  there = is.there;
  within = previous_within (length is.ring) place.edge is.within;
  numbered = (vertex_at rings vertices number place proper are is).previous;
}

-- so it knows the one after it
pub next_vertex : (rings : List (List Position)) (vertices : List SweepVertex) (number : ℕ) (place : RingEdge) → AreProperRings rings → IsListOf rings vertices
    → (is : IsNumbered rings number place)
    → IsVertex rings vertices (next_in vertices number) (next_place place is.ring) is.ring
unfolding next_numbered
next_vertex rings vertices number place proper are is =
    vertex_at rings vertices (next_in vertices number) (next_place place is.ring) proper are (next_numbered rings vertices number place proper are is)

-- and the one before it
pub previous_vertex : (rings : List (List Position)) (vertices : List SweepVertex) (number : ℕ) (place : RingEdge) → AreProperRings rings → IsListOf rings vertices
    → (is : IsNumbered rings number place)
    → IsVertex rings vertices (previous_in vertices number) (previous_place place is.ring) is.ring
unfolding previous_numbered
previous_vertex rings vertices number place proper are is =
    vertex_at rings vertices (previous_in vertices number) (previous_place place is.ring) proper are (previous_numbered rings vertices number place proper are is)

-- the vertices of proper rings are linked
pub linked_vertices : (rings : List (List Position)) (vertices : List SweepVertex) → AreProperRings rings → IsListOf rings vertices → AreLinked vertices
linked_vertices rings vertices proper are = record {
  next_known = λ number within.
      let it = sweep_vertex_there rings vertices number are within in
      numbered_within rings vertices (next_in vertices number) (next_place it.place it.is.ring) are (next_numbered rings vertices number it.place proper are it.is);
  previous_known = λ number within.
      let it = sweep_vertex_there rings vertices number are within in
      numbered_within rings vertices (previous_in vertices number) (previous_place it.place it.is.ring) are (previous_numbered rings vertices number it.place proper are it.is);
  there_and_back = λ number within.
      let it = sweep_vertex_there rings vertices number are within in
      (next_vertex rings vertices number it.place proper are it.is).previous
      ∙ ap (λ (n : ℕ). vertex_count (take it.place.ring rings) + n) (next_previous (length it.is.ring) it.place.edge it.is.within) ∙ sym it.is.numbered;
  back_and_there = λ number within.
      let it = sweep_vertex_there rings vertices number are within in
      (previous_vertex rings vertices number it.place proper are it.is).next
      ∙ ap (λ (n : ℕ). vertex_count (take it.place.ring rings) + n) (previous_next (length it.is.ring) it.place.edge it.is.within) ∙ sym it.is.numbered;
  longer = λ number within same.
      let it = sweep_vertex_there rings vertices number are within in
      let next = sym (next_vertex rings vertices number it.place proper are it.is).next ∙ same ∙ it.is.numbered in
      next_but_one (length it.is.ring) it.place.edge (proper.several it.place.ring it.is.ring it.is.there) it.is.within (omega (arith, next));
  apart = λ number within same.
      let it = sweep_vertex_there rings vertices number are within in
      let next = next_vertex rings vertices number it.place proper are it.is in
      proper.apart it.place.ring it.place.edge it.is.ring (position_in vertices number) (position_in vertices (next_in vertices number)) it.is.there it.here next.here (sym same);
}

-- Vertices are a plan

-- what two edges share, by their numbers
data SharedWay (vertices : SweepVertices) (first second : ℕ) : Type 0 where
  ahead : next_at vertices first ≡ second → shared_at vertices first second ≡ Some (position_at vertices second) → SharedWay vertices first second
  back : next_at vertices first ≢ second → next_at vertices second ≡ first → shared_at vertices first second ≡ Some (position_at vertices first)
      → SharedWay vertices first second
  apart : next_at vertices first ≢ second → next_at vertices second ≢ first → shared_at vertices first second ≡ None → SharedWay vertices first second

-- the first goes on to the second
pub when_ahead : (vertices : SweepVertices) (first second : ℕ) → next_at vertices first ≡ second → shared_at vertices first second ≡ Some (position_at vertices second)
when_ahead vertices first second same = cond-true (next_at vertices first == second) _ _ (eq-eqb (next_at vertices first) second same)

-- the second to the first
pub when_back : (vertices : SweepVertices) (first second : ℕ) → next_at vertices first ≢ second → next_at vertices second ≡ first
    → shared_at vertices first second ≡ Some (position_at vertices first)
when_back vertices first second not same =
    cond-false (next_at vertices first == second) _ _ (ne_eqb (next_at vertices first) second not)
    ∙ cond-true (next_at vertices second == first) _ _ (eq-eqb (next_at vertices second) first same)

-- neither
when_apart : (vertices : SweepVertices) (first second : ℕ) → next_at vertices first ≢ second → next_at vertices second ≢ first → shared_at vertices first second ≡ None
when_apart vertices first second not nor =
    cond-false (next_at vertices first == second) _ _ (ne_eqb (next_at vertices first) second not)
    ∙ cond-false (next_at vertices second == first) _ _ (ne_eqb (next_at vertices second) first nor)

-- and it is known in which way
shared_way : (vertices : SweepVertices) (first second : ℕ) → SharedWay vertices first second
shared_way vertices first second = either (cases_eq (next_at vertices first) second) (cases_eq (next_at vertices second) first)
  where
    either : (next_at vertices first ≡ second) ⊎ (next_at vertices first ≢ second)
        → (next_at vertices second ≡ first) ⊎ (next_at vertices second ≢ first) → SharedWay vertices first second
    either (inl same) other = ahead same (when_ahead vertices first second same)
    either (inr not) (inl same) = back not same (when_back vertices first second not same)
    either (inr not) (inr nor) = apart not nor (when_apart vertices first second not nor)

-- edges that follow one another share what they share either way
shared_alike : (vertices : SweepVertices) (first second : ℕ) → first < sweep_count vertices → second < sweep_count vertices → shared_at vertices first second ≡ shared_at vertices second first
shared_alike vertices first second within inside = either (shared_way vertices first second) (shared_way vertices second first)
  where
    either : SharedWay vertices first second → SharedWay vertices second first → shared_at vertices first second ≡ shared_at vertices second first
    either (ahead next is) (ahead its was) =
        absurd (vertices.linked.longer first within (ap (next_at vertices) next ∙ its))
    either (ahead next is) (back not its was) = is ∙ sym was
    either (ahead next is) (apart not nor was) = absurd (nor next)
    either (back not its is) (ahead next was) = is ∙ sym was
    either (back not its is) (back nor next was) = absurd (not next)
    either (back not its is) (apart other nor was) = absurd (other its)
    either (apart not nor is) (ahead next was) = absurd (nor next)
    either (apart not nor is) (back other next was) = absurd (not next)
    either (apart not nor is) (apart other others was) = is ∙ sym was

-- what is shared is an end of the first
shared_on_first : (vertices : SweepVertices) (first second : ℕ) (vertex : Position) → shared_at vertices first second ≡ Some vertex → IsEndOf vertex ((plan_of vertices).segment first)
shared_on_first vertices first second vertex there =
    elim (shared_way vertices first second) [
      | ahead next is ↦
          let at : position_at vertices (next_at vertices first) ≡ vertex = ap (position_at vertices) next ∙ same_Some (position_at vertices second) vertex (sym is ∙ there) in
          subst (λ (p : Position). IsEndOf p ((plan_of vertices).segment first)) at (end_second (position_at vertices first) (position_at vertices (next_at vertices first)))
      | back not its is ↦
          let at : position_at vertices first ≡ vertex = same_Some (position_at vertices first) vertex (sym is ∙ there) in
          subst (λ (p : Position). IsEndOf p ((plan_of vertices).segment first)) at (end_first (position_at vertices first) (position_at vertices (next_at vertices first)))
      | apart not nor is ↦ absurd (none-some vertex (sym is ∙ there))
    ]

-- vertices are a plan
pub plan_of_vertices : (vertices : SweepVertices) → IsPlan (plan_of vertices)
plan_of_vertices vertices = record {
  rising = λ edge within. rising_between (position_at vertices edge) (position_at vertices (next_at vertices edge)) (sweep_vertex_at vertices edge).in_range
      (sweep_vertex_at vertices (next_at vertices edge)).in_range (λ same. vertices.linked.apart edge within (sym same));
  on_first = λ first second vertex within inside there. shared_on_first vertices first second vertex there;
  on_second = λ first second vertex within inside there. shared_on_first vertices second first vertex (sym (shared_alike vertices first second within inside) ∙ there);
  alike = λ first second within inside. shared_alike vertices first second within inside;
}

-- Points of edges

-- edges as the sweep and as the ring goes have the same points
pub on_edge_at : (vertices : SweepVertices) (number : ℕ) (point : RationalPoint) → LiesOn point (edge_at vertices number) → LiesOn point (edge_along ((plan_of vertices).segment number))
on_edge_at vertices number point lies =
    elim (between_them (position_at vertices number) (position_at vertices (next_at vertices number))) [
      | up rises is ↦ subst (λ (it : Segment). LiesOn point (edge_along it)) (sym is) lies
      | down falls is ↦ subst (λ (it : Segment). LiesOn point (edge_along it)) (sym is) (lies_on_reversed point (edge_at vertices number) lies)
    ]

-- the same back
pub on_segment_at : (vertices : SweepVertices) (number : ℕ) (point : RationalPoint) → LiesOn point (edge_along ((plan_of vertices).segment number)) → LiesOn point (edge_at vertices number)
on_segment_at vertices number point lies =
    elim (between_them (position_at vertices number) (position_at vertices (next_at vertices number))) [
      | up rises is ↦ subst (λ (it : Segment). LiesOn point (edge_along it)) is lies
      | down falls is ↦
          let turned = subst (λ (it : Segment). LiesOn point (edge_along it)) is lies in
          lies_on_reversed point (edge_along (segment (position_at vertices (next_at vertices number)) (position_at vertices number))) turned
    ]

-- Tests

-- what is named is so of these edges
pub named_of_vertices : (vertices : SweepVertices) (first second : ℕ) (shared : Option Position) (one other : Edge) (answer : Option RationalPoint) → shared ≡ shared_at vertices first second
    → one ≡ edge_at vertices first → other ≡ edge_at vertices second → IsNamed shared one other answer → IsNamed (shared_at vertices first second) (edge_at vertices first) (edge_at vertices second) answer
named_of_vertices vertices first second shared one other answer is_shared is_one is_other named =
    subst (λ (it : Edge). IsNamed (shared_at vertices first second) (edge_at vertices first) it answer) is_other
    (subst (λ (it : Edge). IsNamed (shared_at vertices first second) it other answer) is_one (subst (λ (it : Option Position). IsNamed it one other answer) is_shared named))

-- where no point is named, two edges were tested
pub tested_by_name : (vertices : SweepVertices) (first second : ℕ) → IsNamed (shared_at vertices first second) (edge_at vertices first) (edge_at vertices second) None
    → Tested (plan_of vertices) first second
tested_by_name vertices first second named point on_first on_second =
    only_at_the_shared_vertex (shared_at vertices first second) (edge_at vertices first) (edge_at vertices second) point named (on_segment_at vertices first point on_first)
    (on_segment_at vertices second point on_second)

-- so they were where the answer is none
pub tested_if_none : (vertices : SweepVertices) (first second : ℕ) (answer : Option RationalPoint) → IsNamed (shared_at vertices first second) (edge_at vertices first) (edge_at vertices second) answer
    → IfNone answer (Tested (plan_of vertices) first second)
tested_if_none vertices first second None named = tested_by_name vertices first second named
tested_if_none vertices first second (Some point) named = tt

-- and else it is their point
pub point_by_name : (vertices : SweepVertices) (first second : ℕ) (answer : Option RationalPoint) → IsNamed (shared_at vertices first second) (edge_at vertices first) (edge_at vertices second) answer
    → IfSome answer IsBounded → IfSome answer (IsPointOf vertices first second)
point_by_name vertices first second None named bounded = tt
point_by_name vertices first second (Some point) named bounded = record { named = named; bounded = bounded }

-- where a point is named, they were not tested well
pub named_not_tested : (vertices : SweepVertices) (first second : ℕ) (point : RationalPoint) → IsNamedFor vertices first second point → ¬ Tested (plan_of vertices) first second
named_not_tested vertices first second point named tested =
    let common = named_is_common (shared_at vertices first second) (edge_at vertices first) (edge_at vertices second) point named in
    let only = tested point (on_edge_at vertices first point common.on_first) (on_edge_at vertices second point common.on_second) in
    common.apart only.0 only.1 only.2

-- a test of two edges is one of them the other way round
pub tested_either_way : (vertices : SweepVertices) (first second : ℕ) → first < sweep_count vertices → second < sweep_count vertices → Tested (plan_of vertices) first second
    → Tested (plan_of vertices) second first
tested_either_way vertices first second within inside tested point on_second on_first =
    let it = tested point on_first on_second in
    (it.0, sym (shared_alike vertices first second within inside) ∙ it.1, it.2)

-- so it holds both ways
pub tested_both_ways : (vertices : SweepVertices) (first second : ℕ) (answer : Option Pair) → first < sweep_count vertices → second < sweep_count vertices
    → IfNone answer (Tested (plan_of vertices) first second) → IfNone answer (Tested (plan_of vertices) first second × Tested (plan_of vertices) second first)
tested_both_ways vertices first second None within inside tested = (tested, tested_either_way vertices first second within inside tested)
tested_both_ways vertices first second (Some pair) within inside tested = tt

-- the same, the other way round
pub tested_back_and_forth : (vertices : SweepVertices) (first second : ℕ) (answer : Option Pair) → first < sweep_count vertices → second < sweep_count vertices
    → IfNone answer (Tested (plan_of vertices) second first) → IfNone answer (Tested (plan_of vertices) first second × Tested (plan_of vertices) second first)
tested_back_and_forth vertices first second None within inside tested = (tested_either_way vertices second first inside within tested, tested)
tested_back_and_forth vertices first second (Some pair) within inside tested = tt

-- edges that begin at one position share no vertex there
none_together : (vertices : SweepVertices) (first second : ℕ) (vertex : Position) → AreTogether vertices first second → shared_at vertices first second ≡ Some vertex → ⊥
none_together vertices first second vertex together there =
    elim (shared_way vertices first second) [
      | ahead next is ↦ vertices.linked.apart first together.first_known (ap (position_at vertices) next ∙ sym together.together)
      | back not next is ↦ vertices.linked.apart second together.second_known (ap (position_at vertices) next ∙ together.together)
      | apart not nor is ↦ none-some vertex (sym is ∙ there)
    ]

-- edges of vertices at one position meet wrongly
pub together_meets : (vertices : SweepVertices) (first second : ℕ) → AreTogether vertices first second → ¬ Tested (plan_of vertices) first second
together_meets vertices first second together tested =
    let point = whole (position_at vertices first) in
    let on_first = on_edge_at vertices first point (begin_lies_on (edge_at vertices first)) in
    let begin : LiesOn (whole (position_at vertices second)) (edge_at vertices second) = begin_lies_on (edge_at vertices second) in
    let moved : LiesOn (whole (position_at vertices first)) (edge_at vertices second) = subst (λ (p : Position). LiesOn (whole p) (edge_at vertices second)) (sym together.together) begin in
    let it = tested point on_first (on_edge_at vertices second point moved) in
    none_together vertices first second it.0 together it.1

-- Meetings

-- the edge that begins in a vertex of rings
pub edge_of_sweep_vertex : (rings : List (List Position)) (vertices : SweepVertices) (number : ℕ) (place : RingEdge) → AreProperRings rings → AreSweepVertices rings vertices
    → IsNumbered rings number place
    → IsEdgeOf rings place (edge_at vertices number)
edge_of_sweep_vertex rings vertices number place proper are is =
    let here = (vertex_at rings vertices.list.now number place proper are is).here in
    let following = (next_vertex rings vertices.list.now number place proper are is).here in
    let next = next_round (length is.ring) place.edge in
    let a = position_at vertices number in
    let b = position_at vertices (next_at vertices number) in
    record {
      ring = is.ring;
      there = is.there;
      here = edge_read is.ring place.edge next a b is.within refl (next_within (length is.ring) place.edge is.within) (sym (get_or_from_slice_get is.ring place.edge a a here))
          (sym (get_or_from_slice_get is.ring next b b following));
    }

-- the next vertex is that of the edge that follows
next_is_follower : (rings : List (List Position)) (vertices : SweepVertices) (first second : ℕ) (one other : RingEdge) → AreProperRings rings → AreSweepVertices rings vertices
    → (is : IsNumbered rings first one)
    → IsNumbered rings second other → other.ring ≡ one.ring → other.edge ≡ next_round (length is.ring) one.edge → next_at vertices first ≡ second
next_is_follower rings vertices first second one other proper are is its same follows =
    (vertex_at rings vertices.list.now first one proper are is).next ∙ ap₂ (λ (r e : ℕ). vertex_count (take r rings) + e) (sym same) (sym follows) ∙ sym its.numbered

-- what vertices share is what the edges do
sharing : (rings : List (List Position)) (vertices : SweepVertices) (first second : ℕ) (one other : RingEdge) → AreProperRings rings → AreSweepVertices rings vertices
    → IsNumbered rings first one
    → IsNumbered rings second other → AreSharing rings one other (shared_at vertices first second)
sharing rings vertices first second one other proper are is its = either (shared_way vertices first second)
  where
    follow : (from to : ℕ) (here following : RingEdge) → (there : IsNumbered rings from here) → IsNumbered rings to following → next_at vertices from ≡ to
        → Follows rings here following (position_at vertices to)
    follow from to here following there its_there next =
        let moved = subst (λ (n : ℕ). IsNumbered rings n (next_place here there.ring)) next (next_numbered rings vertices.list.now from here proper are there) in
        let same : following ≡ next_place here there.ring = one_place rings to following (next_place here there.ring) its_there moved in
        follows_next rings here following (edge_at vertices to) there.ring (edge_of_sweep_vertex rings vertices to following proper are its_there) there.there
        (ap (λ (p : RingEdge). p.ring) same) (ap (λ (p : RingEdge). p.edge) same)

    either : SharedWay vertices first second → AreSharing rings one other (shared_at vertices first second)
    either (ahead next way) =
        subst (AreSharing rings one other) (sym way)
        (only_shared rings one other is.ring (position_at vertices second) proper is.there (forward (follow first second one other is its next)))
    either (back not next way) =
        subst (AreSharing rings one other) (sym way)
        (only_shared rings one other is.ring (position_at vertices first) proper is.there (backward (follow second first other one its is next)))
    either (apart not nor way) = subst (AreSharing rings one other) (sym way) (none_is_shared rings one other (by_ring (cases_eq one.ring other.ring)))
      where
        by_ring : (one.ring ≡ other.ring) ⊎ (one.ring ≢ other.ring) → (vertex : Position) → ¬ IsShared rings one other vertex
        by_ring (inr different) = none_in_two_rings rings one other different
        by_ring (inl same) =
            let alike : its.ring ≡ is.ring = same_Some its.ring is.ring (sym its.there ∙ ap (slice_get rings) (sym same) ∙ is.there) in
            none_apart rings one other is.ring is.there
            (λ next. not (next_is_follower rings vertices first second one other proper are is its (sym same) next))
            (λ next. nor
            (next_is_follower rings vertices second first other one proper are its is same (next ∙ ap (λ (r : List Position). next_round (length r) other.edge) (sym alike))))

-- a meeting of vertices is one of the rings
pub meeting_of_rings : (rings : List (List Position)) (vertices : SweepVertices) (first second : ℕ) (meeting : Meeting) → AreProperRings rings → AreSweepVertices rings vertices
    → first < second → IsPointOf vertices first second meeting.point → IsNumbered rings first (first_of meeting) → IsNumbered rings second (second_of meeting) → IsMeetingOf rings meeting
meeting_of_rings rings vertices first second meeting proper are before is one other =
    meeting_by_name rings meeting (edge_at vertices first) (edge_at vertices second) (shared_at vertices first second)
    (in_order rings first second (first_of meeting) (second_of meeting) one other before)
    (edge_of_sweep_vertex rings vertices first (first_of meeting) proper are one) (edge_of_sweep_vertex rings vertices second (second_of meeting) proper are other)
    (sharing rings vertices first second (first_of meeting) (second_of meeting) proper are one other) is.named is.bounded

-- an edge of rings begins in a vertex
pub record HasSweepVertex (rings : List (List Position)) (vertices : SweepVertices) (number : RingEdge) (it : Edge) : Type 0 where
  pub at : ℕ
  pub within : at < sweep_count vertices
  pub numbered : IsNumbered rings at number
  pub its_edge : edge_at vertices at ≡ it

-- each does
pub vertex_of_edge : (rings : List (List Position)) (vertices : SweepVertices) (number : RingEdge) (it : Edge) → AreProperRings rings → AreSweepVertices rings vertices
    → IsEdgeOf rings number it
    → HasSweepVertex rings vertices number it
vertex_of_edge rings vertices number it proper are is =
    let at = vertex_count (take number.ring rings) + number.edge in
    let numbered : IsNumbered rings at number = record { ring = is.ring; there = is.there; within = within_ring rings number it is.ring is is.there; numbered = refl } in
    record {
      at = at;
      within = numbered_within rings vertices.list.now at number are numbered;
      numbered = numbered;
      its_edge = one_edge rings number (edge_at vertices at) it (edge_of_sweep_vertex rings vertices at number proper are numbered) is;
    }

-- and where the vertices have none, the rings have none
pub none_of_rings : (rings : List (List Position)) (vertices : SweepVertices) → AreProperRings rings → AreSweepVertices rings vertices → NoneWrong vertices
    → (first second : RingEdge) (point : RationalPoint) → ¬ MeetsWrongly rings first second point
none_of_rings rings vertices proper are none first second point meets =
    let one = vertex_of_edge rings vertices first meets.one proper are meets.one_there in
    let other = vertex_of_edge rings vertices second meets.other proper are meets.other_there in
    let shares = sharing rings vertices one.at other.at first second proper are one.numbered other.numbered in
    none one.at other.at point one.within other.within
    (λ same. meets.different (one_place rings one.at first second one.numbered (subst (λ (n : ℕ). IsNumbered rings n second) (sym same) other.numbered)))
    (record {
      on_first = on_edge_at vertices one.at point (subst (LiesOn point) (sym one.its_edge) meets.on_one);
      on_second = on_edge_at vertices other.at point (subst (LiesOn point) (sym other.its_edge) meets.on_other);
      apart = λ vertex there at. meets.forbidden vertex ((shares vertex).0 there) at;
    })

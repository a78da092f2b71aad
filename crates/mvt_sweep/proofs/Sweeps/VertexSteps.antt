-- The two edges of a vertex: which of them end in it, which begin, and in which order.
use Rattle.std.proofs.Common.{◌≡◌, ◌≢◌, ◌<◌, inl, inr, ℕ, List, true, false, ℤ, pos, ◌<ℤ◌, refl, sym, ◌∙◌, ap, subst, arith}
use Rattle.std.proofs.lemmas.Int.{ints}
use lib.Signed.{lt_z}
use Rattle.mvt_plane.specs.Geometry.EdgeOrder.{Segment, segment_between}
use Rattle.mvt_plane.specs.Geometry.Measure.{key_of, orientation}
use Rattle.mvt_plane.specs.Position.{Position, IsPosition}
use Rattle.mvt_plane.proofs.Orders.Gaps.{same_key}
use Rattle.mvt_plane.proofs.Orders.Order.{zs, compare_ℤ}
use Rattle.mvt_sweep.specs.Calls.VertexOrder.{IsNextVertex, turns_here}
use Rattle.mvt_sweep.specs.Calls.SweepVertices.{sweep_vertex_at, sweep_count, next_at, plan_of, position_at, previous_at}
use Rattle.mvt_sweep.specs.Calls.Sweep.{BeginThere, BothBegin, BothEnd, PassesOn, Tested}
use Rattle.mvt_sweep.specs.declared.sweep.vertices.SweepVertices.{SweepVertices}
use Rattle.mvt_sweep.proofs.Vertices.VertexPlans.{plan_of_vertices, when_ahead}
use Rattle.mvt_sweep.proofs.Vertices.SegmentEnds.{rises_between, falls_between, high_from_first, high_from_second, turned_round}
use Rattle.mvt_sweep.proofs.Sweeps.SweepSlabs.{event_back}
use Rattle.mvt_sweep.proofs.Sweeps.SweepSteps.{spike}

-- where a vertex is
abbrev here_of : SweepVertices → ℕ → Position
here_of vertices number = position_at vertices number

-- where the edge comes from that ends in it, as its ring goes
abbrev before_of : SweepVertices → ℕ → Position
before_of vertices number = position_at vertices (previous_at vertices number)

-- and where the edge goes to that begins in it
abbrev after_of : SweepVertices → ℕ → Position
after_of vertices number = position_at vertices (next_at vertices number)

-- the edge that comes to the vertex
coming : (vertices : SweepVertices) (number : ℕ) → number < sweep_count vertices
    → (plan_of vertices).segment (previous_at vertices number) ≡ segment_between (before_of vertices number) (here_of vertices number)
coming vertices number within =
    ap (λ (it : ℕ). segment_between (before_of vertices number) (position_at vertices it)) (vertices.linked.back_and_there number within)

-- Which end and which begin

-- the tests of the code, of the vertex before and of the one after it
abbrev Comes : SweepVertices → ℕ → Type 0
Comes vertices number = lt_z (key_of (before_of vertices number)) (key_of (here_of vertices number)) ≡ true

abbrev ComesNot : SweepVertices → ℕ → Type 0
ComesNot vertices number = lt_z (key_of (before_of vertices number)) (key_of (here_of vertices number)) ≡ false

abbrev GoesOn : SweepVertices → ℕ → Type 0
GoesOn vertices number = lt_z (key_of (here_of vertices number)) (key_of (after_of vertices number)) ≡ true

abbrev GoesBack : SweepVertices → ℕ → Type 0
GoesBack vertices number = lt_z (key_of (here_of vertices number)) (key_of (after_of vertices number)) ≡ false

-- one ends and the other begins, as the ring goes
pub passes_on : (vertices : SweepVertices) (number : ℕ) → number < sweep_count vertices → Comes vertices number → GoesOn vertices number
    → PassesOn (plan_of vertices) (here_of vertices number) (previous_at vertices number) number
passes_on vertices number within comes goes = record {
  ends = ap (λ (it : Segment). it.high) (coming vertices number within ∙ rises_between (before_of vertices number) (here_of vertices number) comes);
  begins = ap (λ (it : Segment). it.low) (rises_between (here_of vertices number) (after_of vertices number) goes);
}

-- or against it
pub passes_back : (vertices : SweepVertices) (number : ℕ) → number < sweep_count vertices → ComesNot vertices number → GoesBack vertices number
    → PassesOn (plan_of vertices) (here_of vertices number) number (previous_at vertices number)
passes_back vertices number within comes goes = record {
  ends = ap (λ (it : Segment). it.high) (falls_between (here_of vertices number) (after_of vertices number) goes);
  begins = ap (λ (it : Segment). it.low) (coming vertices number within ∙ falls_between (before_of vertices number) (here_of vertices number) comes);
}

-- both end
pub both_end : (vertices : SweepVertices) (number : ℕ) → number < sweep_count vertices → Comes vertices number → GoesBack vertices number
    → BothEnd (plan_of vertices) (here_of vertices number) (previous_at vertices number) number
both_end vertices number within comes goes = record {
  first_ends = ap (λ (it : Segment). it.high) (coming vertices number within ∙ rises_between (before_of vertices number) (here_of vertices number) comes);
  second_ends = ap (λ (it : Segment). it.high) (falls_between (here_of vertices number) (after_of vertices number) goes);
}

-- both begin
pub both_begin : (vertices : SweepVertices) (number : ℕ) → number < sweep_count vertices → ComesNot vertices number → GoesOn vertices number
    → BeginThere (plan_of vertices) (here_of vertices number) (previous_at vertices number) number
both_begin vertices number within comes goes = record {
  first_begins = ap (λ (it : Segment). it.low) (coming vertices number within ∙ falls_between (before_of vertices number) (here_of vertices number) comes);
  second_begins = ap (λ (it : Segment). it.low) (rises_between (here_of vertices number) (after_of vertices number) goes);
}

-- Turn vertices

-- of two positions that are apart one comes before the other
other_way : (one other : Position) → IsPosition one → IsPosition other → one ≢ other → lt_z (key_of one) (key_of other) ≡ false → lt_z (key_of other) (key_of one) ≡ true
other_way one other within inside apart not_less =
    let differ : ¬ (key_of one ≡ key_of other) = λ same. apart (same_key one other within inside same) in
    grind (arith, ints)

-- where both end, the vertex is one
pub turns_at_ends : (vertices : SweepVertices) (number : ℕ) → number < sweep_count vertices → Comes vertices number → GoesBack vertices number → turns_here vertices number ≡ 1
turns_at_ends vertices number within comes goes =
    let next = other_way (here_of vertices number) (after_of vertices number) (sweep_vertex_at vertices number).in_range (sweep_vertex_at vertices (next_at vertices number)).in_range
    (λ same. vertices.linked.apart number within (sym same)) goes in
    rw (comes, next) refl

-- and where both begin
pub turns_at_begins : (vertices : SweepVertices) (number : ℕ) → number < sweep_count vertices → ComesNot vertices number → GoesOn vertices number → turns_here vertices number ≡ 1
turns_at_begins vertices number within comes goes =
    let previous = other_way (before_of vertices number) (here_of vertices number) (sweep_vertex_at vertices (previous_at vertices number)).in_range (sweep_vertex_at vertices number).in_range
    (λ same. vertices.linked.apart (previous_at vertices number) (vertices.linked.previous_known number within)
    (ap (position_at vertices) (vertices.linked.back_and_there number within) ∙ sym same)) comes in
    rw (comes, previous, goes) refl

-- the next vertex is that of its edges in the other order
pub next_back : (vertices : SweepVertices) (number first second : ℕ) (edges : List ℕ) → IsNextVertex vertices number first second edges
    → IsNextVertex vertices number second first edges
next_back vertices number first second edges next = record {
  key = next.key;
  swept = next.swept;
  event = event_back (plan_of vertices) next.key (position_at vertices number) first second (plan_of_vertices vertices) next.event;
}

-- The order of two that begin

-- their turn is that of the positions that they go to
turn_is : (vertices : SweepVertices) (number : ℕ) → number < sweep_count vertices
    → BeginThere (plan_of vertices) (here_of vertices number) (previous_at vertices number) number
    → orientation (here_of vertices number) ((plan_of vertices).segment (previous_at vertices number)).high ((plan_of vertices).segment number).high
    ≡ orientation (here_of vertices number) (before_of vertices number) (after_of vertices number)
turn_is vertices number within begin =
    let first : ((plan_of vertices).segment (previous_at vertices number)).high ≡ before_of vertices number = high_from_second (before_of vertices number) (position_at vertices (next_at vertices (previous_at vertices number)))
    (begin.first_begins ∙ sym (ap (position_at vertices) (vertices.linked.back_and_there number within))) in
    let second : ((plan_of vertices).segment number).high ≡ after_of vertices number = high_from_first (here_of vertices number) (after_of vertices number) begin.second_begins in
    ap (λ (it : Position). orientation (here_of vertices number) it ((plan_of vertices).segment number).high) first
    ∙ ap (orientation (here_of vertices number) (before_of vertices number)) second

-- and so is that of the two the other way round
turn_back : (vertices : SweepVertices) (number : ℕ) → number < sweep_count vertices
    → BeginThere (plan_of vertices) (here_of vertices number) (previous_at vertices number) number
    → orientation (here_of vertices number) ((plan_of vertices).segment number).high ((plan_of vertices).segment (previous_at vertices number)).high
    ≡ orientation (here_of vertices number) (after_of vertices number) (before_of vertices number)
turn_back vertices number within begin =
    let turns = turned_round (here_of vertices number) ((plan_of vertices).segment (previous_at vertices number)).high ((plan_of vertices).segment number).high in
    let turned = turned_round (here_of vertices number) (before_of vertices number) (after_of vertices number) in
    let same = turn_is vertices number within begin in
    omega (arith, zs)

-- the one that comes is the lower one
pub lower_comes : (vertices : SweepVertices) (number : ℕ) → number < sweep_count vertices
    → BeginThere (plan_of vertices) (here_of vertices number) (previous_at vertices number) number
    → pos 0 <ℤ orientation (here_of vertices number) (before_of vertices number) (after_of vertices number)
    → BothBegin (plan_of vertices) (here_of vertices number) (previous_at vertices number) number
lower_comes vertices number within begin turn = record {
  lower_begins = begin.first_begins;
  upper_begins = begin.second_begins;
  in_order = subst (λ (it : ℤ). pos 0 <ℤ it) (sym (turn_is vertices number within begin)) turn;
}

-- edges that were tested don't go one way
pub not_one_way : (vertices : SweepVertices) (number : ℕ) → number < sweep_count vertices
    → BeginThere (plan_of vertices) (here_of vertices number) (previous_at vertices number) number → Tested (plan_of vertices) (previous_at vertices number) number
    → ¬ (orientation (here_of vertices number) (before_of vertices number) (after_of vertices number) ≡ pos 0)
not_one_way vertices number within begin tested straight =
    spike (plan_of vertices) (here_of vertices number) (previous_at vertices number) number (plan_of_vertices vertices)
    (vertices.linked.previous_known number within) within
    (when_ahead vertices (previous_at vertices number) number (vertices.linked.back_and_there number within)) begin.first_begins begin.second_begins tested
    (turn_is vertices number within begin ∙ straight)

-- so else it is the upper one
pub lower_goes : (vertices : SweepVertices) (number : ℕ) → number < sweep_count vertices
    → BeginThere (plan_of vertices) (here_of vertices number) (previous_at vertices number) number → Tested (plan_of vertices) (previous_at vertices number) number
    → ¬ (pos 0 <ℤ orientation (here_of vertices number) (before_of vertices number) (after_of vertices number))
    → BothBegin (plan_of vertices) (here_of vertices number) number (previous_at vertices number)
lower_goes vertices number within begin tested not =
    let turn : ℤ = orientation (here_of vertices number) (before_of vertices number) (after_of vertices number) in
    record {
      lower_begins = begin.second_begins;
      upper_begins = begin.first_begins;
      in_order = subst (λ (it : ℤ). pos 0 <ℤ it) (sym (turn_back vertices number within begin)) ((elim (compare_ℤ turn (pos 0)) [
        | inl below ↦ let turned = turned_round (here_of vertices number) (before_of vertices number) (after_of vertices number) in omega (arith, zs)
        | inr (inl zero) ↦ absurd (not_one_way vertices number within begin tested zero)
        | inr (inr above) ↦ absurd (not above)
      ]));
    }

-- A step over a vertex in which an edge ended.
use Rattle.std.proofs.Common.{◌≡◌, ◌<◌, inl, inr, ℕ, List, Option, Some, None, IfNone, IfSome, true, false, ℤ, ◌<ℤ◌, ◌≤ℤ◌, ◌≤◌, refl, sym, subst, arith}
use lib.Signed.{lt_z}
use Rattle.std.proofs.lemmas.Int.{ints}
use Rattle.mvt_plane.specs.Geometry.Measure.{key_of}
use Rattle.mvt_plane.proofs.Orders.Gaps.{same_key}
use Rattle.mvt_plane.proofs.Orders.Order.{le_or_lt, antisym_ℤ}
use Rattle.mvt_plane.specs.Counted.{Counted}
use Rattle.mvt_sweep.specs.Work.{IsCounted}
use Rattle.mvt_sweep.specs.Calls.VertexOrder.{IsSweptOver}
use Rattle.mvt_sweep.specs.Calls.SweepVertices.{IsMeetingAt, sweep_vertex_at, sweep_count, next_at, position_at, previous_at}
use Rattle.mvt_sweep.specs.Calls.Steps.{after_an_end, EndsAnEdge, HasBegun, IsSweepStep, met_by}
use Rattle.mvt_sweep.specs.declared.sweep.vertices.SweepVertices.{SweepVertices}
use Rattle.mvt_sweep.specs.declared.sweep.vertices.Pair.{Pair}
use Rattle.mvt_sweep.specs.declared.sweep.step.Step.{Step}
use Rattle.mvt_sweep.specs.declared.sweep.step.Step.TheVariants.{Begins, Ends}
use Rattle.mvt_status.specs.Counts.{raised}
use Rattle.mvt_status.specs.declared.status.Split.{Split}

-- a test that is passed
less_by_test : (a b : ℤ) → lt_z a b ≡ true → a <ℤ b
less_by_test a b test = grind (arith, ints)

-- one that isn't
not_less_by_test : (a b : ℤ) → lt_z a b ≡ false → b ≤ℤ a
not_less_by_test a b test = grind (arith, ints)

-- the edge from the vertex before ended
pub an_end_from_before : (vertices : SweepVertices) (number : ℕ) → lt_z (key_of (position_at vertices (previous_at vertices number))) (key_of (position_at vertices number)) ≡ true
    → EndsAnEdge vertices number
an_end_from_before vertices number test = record {
  neighbour = previous_at vertices number;
  is = inr refl;
  before = less_by_test (key_of (position_at vertices (previous_at vertices number))) (key_of (position_at vertices number)) test;
}

-- or the edge to the vertex after it
pub an_end_from_later : (vertices : SweepVertices) (number : ℕ) → number < sweep_count vertices
    → lt_z (key_of (position_at vertices number)) (key_of (position_at vertices (next_at vertices number))) ≡ false → EndsAnEdge vertices number
an_end_from_later vertices number within test =
    let next : ℕ = next_at vertices number in
    let here : ℤ = key_of (position_at vertices number) in
    let there : ℤ = key_of (position_at vertices next) in
    record {
      neighbour = next;
      is = inl refl;
      before = elim (le_or_lt here there) [
        | inl no_more ↦
            absurd (vertices.linked.apart number within
            (same_key (position_at vertices next) (position_at vertices number) (sweep_vertex_at vertices next).in_range (sweep_vertex_at vertices number).in_range
            (antisym_ℤ (not_less_by_test here there test) no_more)))
        | inr fewer ↦ fewer
      ];
    }

-- so the step goes on, or comes to a meeting
pub step_after_an_end : (vertices : SweepVertices) (number : ℕ) (before after : List ℕ) (answer : Option Pair) → IfNone answer (IsSweptOver vertices number after) → IfSome answer (IsMeetingAt vertices)
    → EndsAnEdge vertices number → IsSweepStep vertices number before after (after_an_end answer)
step_after_an_end vertices number before after None none some an_end = (none, an_end)
step_after_an_end vertices number before after (Some pair) none some an_end = some

-- where both edges of the vertex began, the line went over it
pub stepped_begins : (vertices : SweepVertices) (number : ℕ) (before after : List ℕ) (place : Split) (step : Step) (begun : Option Split) (count more : Counted) → step ≡ Begins place → begun ≡ Some place
    → IsSweepStep vertices number before after step → IsCounted 1 count more (met_by step)
    → IsSweptOver vertices number after × HasBegun vertices number before begun × raised 1 count.probes ≤ more.probes
stepped_begins vertices number before after place step begun count more same begins is least =
    let told = subst (IsSweepStep vertices number before after) same is in
    (told.0, subst (HasBegun vertices number before) (sym begins) told.1, subst (λ (it : Step). IsCounted 1 count more (met_by it)) same least)

-- and where an edge ended
pub stepped_ends : (vertices : SweepVertices) (number : ℕ) (before after : List ℕ) (step : Step) (begun : Option Split) (count more : Counted) → step ≡ Ends → begun ≡ None
    → IsSweepStep vertices number before after step → IsCounted 1 count more (met_by step)
    → IsSweptOver vertices number after × HasBegun vertices number before begun × raised 1 count.probes ≤ more.probes
stepped_ends vertices number before after step begun count more same ends is least =
    let told = subst (IsSweepStep vertices number before after) same is in
    (told.0, subst (HasBegun vertices number before) (sym ends) told.1, subst (λ (it : Step). IsCounted 1 count more (met_by it)) same least)

-- what holds where no meeting is returned
pub none_after_an_end : (P : Type 0) (found : Option Pair) (step : Step) → step ≡ after_an_end found → IfNone found P → IfNone (met_by step) P
none_after_an_end P None step is holds = subst (λ (step : Step). IfNone (met_by step) P) (sym is) holds
none_after_an_end P (Some pair) step is holds = subst (λ (step : Step). IfNone (met_by step) P) (sym is) tt

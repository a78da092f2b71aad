-- The work of a sweep, step by step, and what follows for the rings from what it finds.
use Rattle.std.proofs.Common.{◌≡◌, ℕ, ◌+◌, ◌*◌, ◌<◌, ◌≤◌, Option, Some, None, IfNone, IfSome, sym, subst, arith}
use Rattle.std.proofs.Math.Nat.{mul-le-mul_right}
use Rattle.mvt_plane.specs.Counted.{Counted}
use Rattle.mvt_sweep.specs.Work.{AddsWork}
use Rattle.mvt_sweep.specs.Calls.VertexOrder.{AreTogether}
use Rattle.mvt_sweep.specs.Calls.SweepVertices.{IsMeetingAt, plan_of, sweep_count}
use Rattle.mvt_sweep.specs.Calls.Sweep.{Tested}
use Rattle.mvt_sweep.specs.declared.meeting.Meeting.{Meeting}
use Rattle.mvt_sweep.specs.declared.sweep.vertices.SweepVertices.{SweepVertices}
use Rattle.mvt_sweep.specs.declared.sweep.vertices.Pair.{Pair}
use Rattle.mvt_sweep.proofs.Vertices.VertexPlans.{together_meets, named_not_tested}
use Rattle.mvt_sweep.proofs.Sweeps.StatusCounts.{work_then, work_within}

-- The work

-- the work of one more step
pub another_step : (at turns more probes visits : ℕ) (before between after : Counted) → AddsWork (2 * at) (at + turns * probes) (turns * visits) before between
    → AddsWork 2 (1 + more * probes) (more * visits) between after → AddsWork (2 * (at + 1)) (at + 1 + (turns + more) * probes) ((turns + more) * visits) before after
another_step at turns more probes visits before between after passed step =
    work_within (omega arith) (grind arith) (grind arith) (work_then passed step)

-- at most that of so many steps
pub so_many_steps : (at many turns most_turns probes visits : ℕ) (before after : Counted) → at ≤ many → turns ≤ most_turns
    → AddsWork (2 * at) (at + turns * probes) (turns * visits) before after
    → AddsWork (2 * many) (many + most_turns * probes) (most_turns * visits) before after
so_many_steps at many turns most_turns probes visits before after most fewer work =
    work_within (omega arith) (omega (arith, most, mul-le-mul_right probes fewer)) (mul-le-mul_right visits fewer) work

-- two tests for each are within three for each
pub with_no_more_tests : (vertices : ℕ) {probes visits : ℕ} {before after : Counted} → AddsWork (2 * vertices) probes visits before after → AddsWork (3 * vertices) probes visits before after
with_no_more_tests vertices work = work_within (omega arith) (omega arith) (omega arith) work

-- and so they are with one further test
pub with_one_more_test : (vertices : ℕ) {probes visits : ℕ} {before between after : Counted} → 0 < vertices → AddsWork (2 * vertices) probes visits before between
    → AddsWork 1 0 0 between after → AddsWork (3 * vertices) probes visits before after
with_one_more_test vertices some work test = work_within (omega arith) (omega arith) (omega arith) (work_then work test)

-- by vertices alone it is no more than this
pub work_of_vertices : (vertices turns digits probes each : ℕ) (before after : Counted) → turns ≤ vertices → probes ≤ vertices * each
    → AddsWork (3 * vertices) (probes + turns * (2 * digits)) (turns * (12 * digits)) before after
    → AddsWork (3 * vertices) (vertices * (2 * digits + each)) (vertices * (20 * digits)) before after
work_of_vertices vertices turns digits probes each before after fewer few work =
    let searches = mul-le-mul_right (2 * digits) fewer in
    let visits = mul-le-mul_right (12 * digits) fewer in
    work_within (omega arith) (grind arith) (grind arith) work

-- What is found

-- where none is returned, none was found
pub none_named : {X : Type 0} (found : Option X) (result : Option Meeting) (P : Type 0) → IfNone result (found ≡ None) → IfNone found P → IfNone result P
none_named found None P same is = subst (λ it. IfNone it P) same is
none_named found (Some meeting) P same is = same

-- what holds anyway holds where one is returned
pub if_some : {T : Type 0} (found : Option T) (P : Type 0) → P → IfSome found (λ _. P)
if_some None P holds = tt
if_some (Some it) P holds = holds

-- a pair that was found has a meeting
pub pair_meets : {T : Type 0} (vertices : SweepVertices) (pair : Pair) (result : Option T) (P : Type 0) → IsMeetingAt vertices pair → IfNone result (Tested (plan_of vertices) pair.first pair.second)
    → IfNone result P
pair_meets vertices pair None P meets tested = absurd (named_not_tested vertices pair.first pair.second meets.point meets.named tested)
pair_meets vertices pair (Some it) P meets tested = tested

-- the work of a sweep with that of naming what it found
pub named_work : (vertices : SweepVertices) (found : Option Pair) (many : ℕ) {probes visits : ℕ} {before between after : Counted} → sweep_count vertices ≡ many
    → IfSome found (IsMeetingAt vertices) → AddsWork (2 * many) probes visits before between → AddsWork 1 0 0 between after → IfNone found (after ≡ between)
    → AddsWork (3 * many) probes visits before after
named_work vertices None many {probes} {visits} {before} size meets work test same = subst (AddsWork (3 * many) probes visits before) (sym same) (with_no_more_tests many work)
named_work vertices (Some pair) many size meets work test same = with_one_more_test many (omega (arith, size, meets.known)) work test

-- of two vertices at one position the edges meet, so that a meeting is found
pub together_found : (vertices : SweepVertices) (first second : ℕ) (found : Option Pair) (P : Type 0) → AreTogether vertices first second
    → IfNone found (Tested (plan_of vertices) first second × Tested (plan_of vertices) second first) → IfNone found P
together_found vertices first second None P together tested = absurd (together_meets vertices first second together tested.0)
together_found vertices first second (Some it) P together tested = tested

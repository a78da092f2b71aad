use Rattle.std.proofs.Common.{◌≡◌, ℕ, Bool, true, false, arith, ℤ, SFits, to_z, of_z, w64, sym, subst}
use Rattle.std.specs.Int.Signed.{lt_z}
use Rattle.mvt_plane.specs.Geometry.Measure.{key_of}
use Rattle.mvt_sweep.specs.Calls.Chains.{edges_of}
use Rattle.mvt_sweep.specs.Calls.VertexOrder.{IsNextVertex, turns_here}
use Rattle.mvt_sweep.specs.Calls.Steps.{IsSweepStep}
use Rattle.mvt_sweep.specs.declared.sweep.step.Step.{Step}
use Rattle.mvt_sweep.specs.Calls.SweepVertices.{sweep_count, next_at, plan_of, position_at, previous_at}
use Rattle.mvt_sweep.specs.Calls.Sweep.{PassesOn}
use Rattle.mvt_sweep.proofs.Vertices.SegmentEnds.{test_of_keys}
use Rattle.mvt_sweep.proofs.Sweeps.VertexSteps.{passes_on, passes_back, both_end, both_begin, next_back, turns_at_begins, turns_at_ends}
use Rattle.mvt_sweep.proofs.Sweeps.LeastWork.{counted_after_an_end}
use Rattle.mvt_sweep.proofs.Sweeps.NoMeetings.{none_map}
use Rattle.mvt_sweep.proofs.Sweeps.StatusSteps.{work_of_pass, work_of_turn}
use Rattle.mvt_sweep.proofs.Sweeps.StepsAfterAnEnd.{an_end_from_before, an_end_from_later, none_after_an_end, step_after_an_end}
use Rattle.mvt_sweep.proofs.sweep.step.go_over.Given as given
use Rattle.mvt_sweep.proofs.sweep.step.go_over.Goals as goal
use Rattle.mvt_sweep.proofs.sweep.step.go_over.Goals.{After-key}

-- the test of whether the edge comes from before
comes : (g : given.Over) (c : After-key g) (answer : Bool) → lt_z (to_z w64 (of_z w64 c.key.result)) (to_z w64 (of_z w64 c.key-key.result)) ≡ answer
    → lt_z (key_of (position_at c.args.vertices.now (previous_at c.args.vertices.now c.args.number))) (key_of (position_at c.args.vertices.now c.args.number)) ≡ answer
comes g c answer test =
    test_of_keys (position_at c.args.vertices.now (previous_at c.args.vertices.now c.args.number)) (position_at c.args.vertices.now c.args.number) c.key.result c.key-key.result
    answer (record { sfits = c.key.type_inv }) (record { sfits = c.key-key.type_inv }) (rw c.previous-previous.ensures.value at c.key.ensures) c.key-key.ensures test

-- and of whether the next one goes on
goes : (g : given.Over) (c : After-key g) (following : ℤ) (answer : Bool) → SFits w64 following → following ≡ key_of (position_at c.args.vertices.now (next_at c.args.vertices.now c.args.number))
    → lt_z (to_z w64 (of_z w64 c.key-key.result)) (to_z w64 (of_z w64 following)) ≡ answer
    → lt_z (key_of (position_at c.args.vertices.now c.args.number)) (key_of (position_at c.args.vertices.now (next_at c.args.vertices.now c.args.number))) ≡ answer
goes g c following answer fits is test =
    test_of_keys (position_at c.args.vertices.now c.args.number) (position_at c.args.vertices.now (next_at c.args.vertices.now c.args.number)) c.key-key.result following answer
    (record { sfits = c.key-key.type_inv }) fits c.key-key.ensures is test

pub pass-requires-clause-passes : goal.pass-requires-clause-passes
pass-requires-clause-passes g c =
    let vertices = c.args.vertices.now in
    let number = c.args.number in
    subst (λ (it : ℕ). PassesOn (plan_of vertices) (position_at vertices number) it number) (sym c.previous-previous.ensures.value)
    (passes_on vertices number c.requires.number
    (comes g (goal.at.pass-requires-clause-passes g c).After-key true c.if-comes_from_before.true)
    (goes g (goal.at.pass-requires-clause-passes g c).After-key c.key-2.result true (record { sfits = c.key-2.type_inv }) (rw c.next.ensures.value at c.key-2.ensures) c.if-goes_on.true))

pub end-requires-clause-ends : goal.end-requires-clause-ends
end-requires-clause-ends g c =
    both_end c.args.vertices.now c.args.number c.requires.number
    (comes g (goal.at.end-requires-clause-ends g c).After-key true c.if-comes_from_before.true)
    (goes g (goal.at.end-requires-clause-ends g c).After-key c.key-2.result false (record { sfits = c.key-2.type_inv }) (rw c.next.ensures.value at c.key-2.ensures) c.if-goes_on.false)

pub begin-requires-clause-begin : goal.begin-requires-clause-begin
begin-requires-clause-begin g c =
    both_begin c.args.vertices.now c.args.number c.requires.number
    (comes g (goal.at.begin-requires-clause-begin g c).After-key false c.if-comes_from_before.false)
    (goes g (goal.at.begin-requires-clause-begin g c).After-key c.key-2.result true (record { sfits = c.key-2.type_inv }) (rw c.next.ensures.value at c.key-2.ensures) c.if-goes_on-2.true)

pub pass-requires-else-goes_on-2-clause-next : goal.pass-requires-else-goes_on-2-clause-next
pass-requires-else-goes_on-2-clause-next g c =
    let vertices = c.args.vertices.now in
    let number = c.args.number in
    subst (λ (it : ℕ). IsNextVertex vertices number number it (edges_of c.args.chains.now (g.S.Status.edges c.args.status.now))) (sym c.previous-previous.ensures.value)
    (next_back vertices number (previous_at vertices number) number (edges_of c.args.chains.now (g.S.Status.edges c.args.status.now)) c.requires.next)

pub pass-requires-else-goes_on-2-clause-passes : goal.pass-requires-else-goes_on-2-clause-passes
pass-requires-else-goes_on-2-clause-passes g c =
    let vertices = c.args.vertices.now in
    let number = c.args.number in
    subst (λ (it : ℕ). PassesOn (plan_of vertices) (position_at vertices number) number it) (sym c.previous-previous.ensures.value)
    (passes_back vertices number c.requires.number
    (comes g (goal.at.pass-requires-else-goes_on-2-clause-passes g c).After-key false c.if-comes_from_before.false)
    (goes g (goal.at.pass-requires-else-goes_on-2-clause-passes g c).After-key c.key-2.result false (record { sfits = c.key-2.type_inv }) (rw c.next.ensures.value at c.key-2.ensures) c.if-goes_on-2.false))

pub returns-then-goes_on-clause-step : goal.returns-then-goes_on-clause-step
returns-then-goes_on-clause-step g c =
    let edges = edges_of c.args.chains.now (g.S.Status.edges c.args.status.now) in
    let after = edges_of c.pass.new.chains (g.S.Status.edges c.args.status.now) in
    subst (λ (step : Step). IsSweepStep c.args.vertices.now c.args.number edges after step) (sym c.after_an_end.ensures)
    (step_after_an_end c.args.vertices.now c.args.number edges after c.pass.result (none_map c.pass.result (λ both. both.0) c.pass.ensures.none) c.pass.ensures.some
    (an_end_from_before c.args.vertices.now c.args.number (comes g (goal.at.returns-then-goes_on-clause-step g c).After-key true c.if-comes_from_before.true)))

pub returns-else-goes_on-clause-step : goal.returns-else-goes_on-clause-step
returns-else-goes_on-clause-step g c =
    let edges = edges_of c.args.chains.now (g.S.Status.edges c.args.status.now) in
    let after = edges_of c.end.new.chains (g.S.Status.edges c.end.new.status) in
    subst (λ (step : Step). IsSweepStep c.args.vertices.now c.args.number edges after step) (sym c.after_an_end-else-goes_on.ensures)
    (step_after_an_end c.args.vertices.now c.args.number edges after c.end.result (none_map c.end.result (λ both. both.0) c.end.ensures.none) c.end.ensures.some
    (an_end_from_before c.args.vertices.now c.args.number (comes g (goal.at.returns-else-goes_on-clause-step g c).After-key true c.if-comes_from_before.true)))

pub returns-else-goes_on-2-clause-step : goal.returns-else-goes_on-2-clause-step
returns-else-goes_on-2-clause-step g c =
    let edges = edges_of c.args.chains.now (g.S.Status.edges c.args.status.now) in
    let after = edges_of c.pass-else-goes_on-2.new.chains (g.S.Status.edges c.args.status.now) in
    let found = c.pass-else-goes_on-2 in
    subst (λ (step : Step). IsSweepStep c.args.vertices.now c.args.number edges after step) (sym c.after_an_end-else-goes_on-2.ensures)
    (step_after_an_end c.args.vertices.now c.args.number edges after found.result (none_map found.result (λ both. both.0) found.ensures.none) found.ensures.some
    (an_end_from_later c.args.vertices.now c.args.number c.requires.number
    (goes g (goal.at.returns-else-goes_on-2-clause-step g c).After-key c.key-2.result false (record { sfits = c.key-2.type_inv }) (rw c.next.ensures.value at c.key-2.ensures) c.if-goes_on-2.false)))

pub returns-then-goes_on-clause-chains : goal.returns-then-goes_on-clause-chains
returns-then-goes_on-clause-chains g c = none_after_an_end _ c.pass.result _ c.after_an_end.ensures (none_map c.pass.result (λ both. both.1) c.pass.ensures.none)

pub returns-else-goes_on-clause-chains : goal.returns-else-goes_on-clause-chains
returns-else-goes_on-clause-chains g c = none_after_an_end _ c.end.result _ c.after_an_end-else-goes_on.ensures (none_map c.end.result (λ both. both.1) c.end.ensures.none)

pub returns-else-goes_on-2-clause-chains : goal.returns-else-goes_on-2-clause-chains
returns-else-goes_on-2-clause-chains g c =
    let found = c.pass-else-goes_on-2 in
    none_after_an_end _ found.result _ c.after_an_end-else-goes_on-2.ensures (none_map found.result (λ both. both.1) found.ensures.none)

pub returns-then-goes_on-clause-least : goal.returns-then-goes_on-clause-least
returns-then-goes_on-clause-least g c = counted_after_an_end c.args.count.now c.pass.new.count c.pass.result _ c.after_an_end.ensures c.pass.ensures.least

pub returns-else-goes_on-clause-least : goal.returns-else-goes_on-clause-least
returns-else-goes_on-clause-least g c = counted_after_an_end c.args.count.now c.end.new.count c.end.result _ c.after_an_end-else-goes_on.ensures c.end.ensures.least

pub returns-else-goes_on-2-clause-least : goal.returns-else-goes_on-2-clause-least
returns-else-goes_on-2-clause-least g c =
    counted_after_an_end c.args.count.now c.pass-else-goes_on-2.new.count c.pass-else-goes_on-2.result _ c.after_an_end-else-goes_on-2.ensures c.pass-else-goes_on-2.ensures.least

-- a step over a vertex where an edge goes on
pub returns-then-goes_on-clause-counted : goal.returns-then-goes_on-clause-counted
returns-then-goes_on-clause-counted g c = work_of_pass (turns_here c.args.vertices.now c.args.number) (sweep_count c.args.vertices.now) c.pass.ensures.counted

pub returns-else-goes_on-2-clause-counted : goal.returns-else-goes_on-2-clause-counted
returns-else-goes_on-2-clause-counted g c = work_of_pass (turns_here c.args.vertices.now c.args.number) (sweep_count c.args.vertices.now) c.pass-else-goes_on-2.ensures.counted

-- where both edges end
pub returns-else-goes_on-clause-counted : goal.returns-else-goes_on-clause-counted
returns-else-goes_on-clause-counted g c =
    let at = (goal.at.returns-else-goes_on-clause-counted g c).After-key in
    work_of_turn 1 (turns_here c.args.vertices.now c.args.number) (sweep_count c.args.vertices.now) (omega arith)
    (turns_at_ends c.args.vertices.now c.args.number c.requires.number (comes g at true c.if-comes_from_before.true)
    (goes g at c.key-2.result false (record { sfits = c.key-2.type_inv }) (rw c.next.ensures.value at c.key-2.ensures) c.if-goes_on.false)) c.end.ensures.counted

-- and where both begin
pub returns-then-goes_on-2-clause-counted : goal.returns-then-goes_on-2-clause-counted
returns-then-goes_on-2-clause-counted g c =
    let at = (goal.at.returns-then-goes_on-2-clause-counted g c).After-key in
    work_of_turn 2 (turns_here c.args.vertices.now c.args.number) (sweep_count c.args.vertices.now) (omega arith)
    (turns_at_begins c.args.vertices.now c.args.number c.requires.number (comes g at false c.if-comes_from_before.false)
    (goes g at c.key-2.result true (record { sfits = c.key-2.type_inv }) (rw c.next.ensures.value at c.key-2.ensures) c.if-goes_on-2.true)) c.begin.ensures.counted

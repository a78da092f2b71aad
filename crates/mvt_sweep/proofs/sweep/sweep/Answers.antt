use Rattle.std.proofs.Common.{◌≤◌, ◌+◌, ℕ, ℤ, IfNone, sym, ap, subst, ◌*◌, get_or, length, arith, slice_index_or}
use Rattle.std.proofs.lemmas.Option.{slice_get-get_or}
use Rattle.std.specs.List.{count_by}
use Rattle.mvt_status.specs.Counts.{bits, raised}
use Rattle.mvt_sweep.specs.Calls.Chains.{AreChains, edges_of}
use Rattle.mvt_sweep.specs.Work.{AddsWork}
use Rattle.mvt_sweep.specs.Calls.VertexOrder.{IsSweptOver, turns_here}
use Rattle.mvt_sweep.specs.Calls.SweepVertices.{sweep_count, is_turn_at}
use Rattle.mvt_sweep.proofs.Sweeps.VertexSweeps.{next_sweep_vertex, swept_to_last}
use Rattle.mvt_sweep.proofs.Sweeps.LeastWork.{tested_step}
use Rattle.mvt_sweep.proofs.Sweeps.MeetingsFound.{another_step, so_many_steps}
use Rattle.mvt_sweep.proofs.Sweeps.StatusCounts.{no_work}
use Rattle.mvt_sweep.proofs.Sweeps.StepsAfterAnEnd.{stepped_begins, stepped_ends}
use Rattle.mvt_sweep.proofs.Notes.SweepNotes.{noting_first, noting_next, noting_last, passed_next}
use Rattle.mvt_sweep.proofs.Vertices.VertexOrders.{number_read}
use Rattle.mvt_sweep.proofs.Vertices.TurnCounts.{turns_before, turns_more, turns_so_far, turns_with}
use Rattle.mvt_sweep.proofs.sweep.sweep.Given as given
use Rattle.mvt_sweep.proofs.sweep.sweep.Goals as goal
use Rattle.mvt_sweep.proofs.sweep.sweep.Goals.{After-go_over, in-Begins, in-Ends}
use Rattle.mvt_sweep.specs.Calls.Steps.{HasBegun, IsSweepStep, met_by}
use Rattle.mvt_sweep.specs.declared.sweep.step.Step.{Step}

pub loop-at-init : goal.loop-at-init
loop-at-init g c = record {
  swept = noting_first c.args.vertices.now c.args.order.now (edges_of c.in_ok-chains.chains (g.S.Status.edges c.args.status.now)) _ c.requires.order
      (ap (edges_of c.in_ok-chains.chains) c.requires.empty) (λ key before rings first. first key before);
  chains = subst (AreChains c.args.vertices.now c.in_ok-chains.chains) (sym c.requires.empty) c.in_ok-chains.ensures;
  counted = no_work c.args.count.now;
  least = omega arith;
}

pub go_over-requires-clause-number : goal.go_over-requires-clause-number
go_over-requires-clause-number g c = number_read c.args.vertices.now c.args.order.now c.loop-at.at c.requires.order.numbering c.loop-at-test.true

pub go_over-requires-clause-next : goal.go_over-requires-clause-next
go_over-requires-clause-next g c =
    let number = slice_index_or c.args.order.now c.loop-at.at 0 in
    let there = slice_get-get_or c.args.order.now c.loop-at.at 0 c.loop-at-test.true in
    next_sweep_vertex c.args.vertices.now c.args.order.now c.loop-at.at number (edges_of c.loop-at.chains (g.S.Status.edges c.loop-at.status)) c.requires.order c.requires.strict
    c.loop-at.invariant.swept.swept there

-- the work with that of the next step
with_step : (g : given.Over) (c : After-go_over g) → let vertices = c.args.vertices.now in let order = c.args.order.now in let turns = turns_before vertices order c.loop-at.at + turns_here vertices (get_or order c.loop-at.at 0) in
    AddsWork (2 * (c.loop-at.at + 1)) (c.loop-at.at + 1 + turns * (2 * bits (sweep_count vertices))) (turns * (12 * bits (sweep_count vertices))) c.args.count.now c.go_over.new.count
with_step g c =
    let vertices = c.args.vertices.now in
    another_step c.loop-at.at (turns_before vertices c.args.order.now c.loop-at.at) (turns_here vertices (get_or c.args.order.now c.loop-at.at 0)) (2 * bits (sweep_count vertices))
    (12 * bits (sweep_count vertices)) c.args.count.now c.loop-at.count c.go_over.new.count c.loop-at.invariant.counted c.go_over.ensures.counted

-- it is within that of all steps
within : (g : given.Over) (c : After-go_over g) → let vertices = c.args.vertices.now in let order = c.args.order.now in let turns = count_by (is_turn_at vertices) order in
    AddsWork (2 * length order) (length order + turns * (2 * bits (sweep_count vertices))) (turns * (12 * bits (sweep_count vertices))) c.args.count.now c.go_over.new.count
within g c =
    let vertices = c.args.vertices.now in
    let order = c.args.order.now in
    so_many_steps (c.loop-at.at + 1) (length order) (turns_before vertices order c.loop-at.at + turns_here vertices (get_or order c.loop-at.at 0)) (count_by (is_turn_at vertices) order)
    (2 * bits (sweep_count vertices)) (12 * bits (sweep_count vertices)) c.args.count.now c.go_over.new.count (omega (arith, c.loop-at-test.true))
    (turns_with vertices order c.loop-at.at c.loop-at-test.true) (with_step g c)

pub returns-in_err-pair-clause-counted : goal.returns-in_err-pair-clause-counted
returns-in_err-pair-clause-counted g c = within g (goal.at.returns-in_err-pair-clause-counted g c).After-go_over

pub returns-in-Meets-clause-counted : goal.returns-in-Meets-clause-counted
returns-in-Meets-clause-counted g c = within g (goal.at.returns-in-Meets-clause-counted g c).After-go_over

pub returns-in_err-pass-clause-counted : goal.returns-in_err-pass-clause-counted
returns-in_err-pass-clause-counted g c = within g (goal.at.returns-in_err-pass-clause-counted g c).After-go_over

pub pass-requires : goal.pass-requires
pass-requires g c =
    let vertices = c.args.vertices.now in
    let order = c.args.order.now in
    let number = slice_index_or c.args.order.now c.loop-at.at 0 in
    let before = edges_of c.loop-at.chains (g.S.Status.edges c.loop-at.status) in
    let step = IsSweepStep vertices number before (edges_of c.go_over.new.chains (g.S.Status.edges c.go_over.new.status)) in
    let begun : HasBegun vertices number before c.match-branch-3.begun = elim c.match-branch-3.branch [
      | in-Begins w ↦ subst (HasBegun vertices number before) (sym w.begun-is) (subst step w.in-Begins.is c.in_ok-pair.ensures.step).1
      | in-Ends w ↦ subst (HasBegun vertices number before) (sym w.begun-is) (subst step w.in-Ends.is c.in_ok-pair.ensures.step).1
    ] in (
      c.requires.noted.0,
      c.loop-at.invariant.swept.swept.key,
      before,
      c.loop-at.invariant.swept.noted c.requires.noted.0 c.requires.noted.1,
      passed_next vertices order c.loop-at.at number before c.match-branch-3.begun c.requires.order
          c.requires.strict c.loop-at.invariant.swept.swept (slice_get-get_or order c.loop-at.at 0 c.loop-at-test.true) begun,
    )

pub loop-at-preserved : goal.loop-at-preserved
loop-at-preserved g c =
    let vertices = c.args.vertices.now in
    let order = c.args.order.now in
    let number = slice_index_or c.args.order.now c.loop-at.at 0 in
    let there = slice_get-get_or order c.loop-at.at 0 c.loop-at-test.true in
    let before = edges_of c.loop-at.chains (g.S.Status.edges c.loop-at.status) in
    let after = edges_of c.go_over.new.chains (g.S.Status.edges c.go_over.new.status) in
    let begun = c.match-branch-3.begun in
    let still = λ (step : Step). IfNone (met_by step) (AreChains vertices c.go_over.new.chains (g.S.Status.edges c.go_over.new.status)) in
    let told : IsSweptOver vertices number after × HasBegun vertices number before begun × raised 1 c.loop-at.count.probes ≤ c.go_over.new.count.probes = elim c.match-branch-3.branch [
      | in-Begins w ↦ stepped_begins vertices number before after w.in-Begins.place c.in_ok-pair.field-0 begun c.loop-at.count c.go_over.new.count w.in-Begins.is w.begun-is c.in_ok-pair.ensures.step c.in_ok-pair.ensures.least
      | in-Ends w ↦ stepped_ends vertices number before after c.in_ok-pair.field-0 begun c.loop-at.count c.go_over.new.count w.in-Ends.is w.begun-is c.in_ok-pair.ensures.step c.in_ok-pair.ensures.least
    ] in
    let passed = passed_next vertices order c.loop-at.at number before begun c.requires.order c.requires.strict
    c.loop-at.invariant.swept.swept there told.1 in
    record {
      swept = noting_next vertices order c.loop-at.at number after _ c.requires.order c.requires.strict there told.0
          (λ rings first. c.in_ok-pass.ensures rings c.loop-at.invariant.swept.swept.key before (c.loop-at.invariant.swept.noted rings first) passed);
      chains = elim c.match-branch-3.branch [ in-Begins w ↦ subst still w.in-Begins.is c.in_ok-pair.ensures.chains | in-Ends w ↦ subst still w.in-Ends.is c.in_ok-pair.ensures.chains ];
      counted = subst (λ (turns : ℕ). AddsWork (2 * (c.loop-at.at + 1)) (c.loop-at.at + 1 + turns * (2 * bits (sweep_count vertices))) (turns * (12 * bits (sweep_count vertices))) c.args.count.now c.go_over.new.count)
          (sym (turns_more vertices c.args.order.now c.loop-at.at c.loop-at-test.true)) (with_step g (goal.at.loop-at-preserved g c).After-go_over);
      least = omega (arith, c.loop-at.invariant.least, told.2);
    }

pub returns-clause-noted : goal.returns-clause-noted
returns-clause-noted g c rings first =
    noting_last c.args.vertices.now c.args.order.now c.loop-at.at (edges_of c.loop-at.chains (g.S.Status.edges c.loop-at.status)) (λ (key : ℤ). g.N.Notes.are_noted rings c.args.vertices.now key c.loop-at.notes)
    c.requires.order c.loop-at.invariant.swept.swept c.loop-at-test.false (c.loop-at.invariant.swept.noted rings first)

pub returns-clause-none : goal.returns-clause-none
returns-clause-none g c =
    swept_to_last c.args.vertices.now c.args.order.now c.loop-at.at (edges_of c.loop-at.chains (g.S.Status.edges c.loop-at.status)) c.requires.order
    c.loop-at.invariant.swept.swept c.loop-at-test.false

pub returns-clause-counted : goal.returns-clause-counted
returns-clause-counted g c =
    let vertices = c.args.vertices.now in
    let order = c.args.order.now in
    so_many_steps c.loop-at.at (length order) (turns_before vertices order c.loop-at.at) (count_by (is_turn_at vertices) order) (2 * bits (sweep_count vertices))
    (12 * bits (sweep_count vertices)) c.args.count.now c.loop-at.count c.loop-at.auto.at-end (turns_so_far vertices order c.loop-at.at) c.loop-at.invariant.counted

pub returns-in-Meets-clause-least : goal.returns-in-Meets-clause-least
returns-in-Meets-clause-least g c =
    omega (
      arith,
      c.loop-at.invariant.counted.no_fewer_tests,
      tested_step c.loop-at.count c.go_over.new.count c.in_ok-pair.field-0 c.in-Meets.pair c.in-Meets.is c.in_ok-pair.ensures.least,
    )

pub returns-clause-least : goal.returns-clause-least
returns-clause-least g c = omega (arith, c.loop-at.invariant.least, c.loop-at-test.false)

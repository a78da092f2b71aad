use Rattle.std.proofs.Common.{◌≡◌, ◌∙◌, ◌+◌, ◌*◌, ◌≤◌, ℕ, List, Option, None, IfNone, IfSome, length, ap, sym, subst, arith}
use Rattle.std.specs.List.{count_by}
use Rattle.mvt_plane.specs.Counted.{Counted, ticked}
use Rattle.mvt_plane.specs.Position.{Position}
use Rattle.mvt_status.specs.Counts.{bits}
use Rattle.mvt_sweep.specs.Work.{AddsWork, IsCounted, vertex_count}
use Rattle.mvt_sweep.specs.Calls.VertexOrder.{IsOrder, IsStrict}
use Rattle.mvt_sweep.specs.Calls.SweepVertices.{is_turn_at}
use Rattle.mvt_sweep.specs.Meeting.{IsMeetingOf}
use Rattle.mvt_sweep.specs.Rings.{rings_of}
use Rattle.mvt_sweep.specs.Calls.Swept.{IsSweptWith}
use Rattle.mvt_sweep.specs.TurnVertices.{turn_count}
use Rattle.mvt_sweep.specs.declared.meeting.Meeting.{Meeting as MeetingOf}
use Rattle.mvt_sweep.specs.declared.sweep.vertices.Pair.{Pair}
use Rattle.mvt_sweep.proofs.Vertices.VertexPlans.{none_of_rings}
use Rattle.mvt_sweep.proofs.Notes.FrontRings.{rings_in_range}
use Rattle.mvt_sweep.proofs.Sweeps.MeetingsFound.{named_work, so_many_steps, with_no_more_tests, work_of_vertices}
use Rattle.mvt_sweep.proofs.Vertices.TurnCounts.{turns_among_vertices, turns_in_order}
use Rattle.mvt_sweep.proofs.sweep.swept.sweep_over.Given as given
use Rattle.mvt_sweep.proofs.sweep.swept.sweep_over.Goals as goal
use Rattle.mvt_sweep.proofs.sweep.swept.sweep_over.Goals.{in-Some-meeting_found, in-None, After-meeting_found, After-sweep}

pub sweep-requires-clause-order : goal.sweep-requires-clause-order
sweep-requires-clause-order g c = subst (IsOrder c.args.vertices.now) (sym c.deref-2.ensures.value) c.in_ok-order.ensures.order

pub sweep-requires-clause-strict : goal.sweep-requires-clause-strict
sweep-requires-clause-strict g c =
    subst (IsStrict c.args.vertices.now) (c.deref.ensures.value ∙ sym c.deref-2.ensures.value) (rw c.in_default.is at c.meeting_at_one_position.ensures.none)

pub sweep-requires-clause-noted : goal.sweep-requires-clause-noted
sweep-requires-clause-noted g c = (rings_of c.args.rings.now, c.in_ok-notes.ensures c.args.vertices.now c.requires.rings c.requires.vertices)

-- the work of the sweep
work : (g : given.Over) (c : After-sweep g) → let many = vertex_count (rings_of c.args.rings.now) in let turns = turn_count (rings_of c.args.rings.now) in
    AddsWork (2 * many) (many + turns * (2 * bits many)) (turns * (12 * bits many)) c.args.count.now c.sweep.new.count
work g c =
    let rings = rings_of c.args.rings.now in
    let vertices = c.args.vertices.now in
    let order = c.deref-2.result.now in
    let many = vertex_count rings in
    let before = c.meeting_at_one_position.new.count in
    let untouched : before ≡ c.args.count.now = rw c.in_default.is at c.meeting_at_one_position.ensures.untested in
    let size : length order ≡ many = ap length c.deref-2.ensures.value ∙ c.in_ok-order.ensures.whole ∙ c.requires.vertices.count in
    let fewer = turns_in_order rings vertices order c.requires.rings c.requires.vertices (subst (IsOrder vertices) (sym c.deref-2.ensures.value) c.in_ok-order.ensures.order) in
    let swept : AddsWork (2 * length order) (length order + count_by (is_turn_at vertices) order * (2 * bits many)) (count_by (is_turn_at vertices) order * (12 * bits many)) before c.sweep.new.count =
    subst (λ (n : ℕ). AddsWork (2 * length order) (length order + count_by (is_turn_at vertices) order * (2 * bits n)) (count_by (is_turn_at vertices) order * (12 * bits n)) before c.sweep.new.count)
    c.requires.vertices.count c.sweep.ensures.counted in
    subst (λ (count : Counted). AddsWork (2 * many) (many + turn_count rings * (2 * bits many)) (turn_count rings * (12 * bits many)) count c.sweep.new.count) untouched
    (so_many_steps (length order) many (count_by (is_turn_at vertices) order) (turn_count rings) (2 * bits many) (12 * bits many) before c.sweep.new.count (omega (arith, size)) fewer swept)

-- with that of naming what it found
named : (g : given.Over) (c : After-meeting_found g) {probes visits : ℕ} → AddsWork (2 * vertex_count (rings_of c.args.rings.now)) probes visits c.args.count.now c.sweep.new.count
    → AddsWork (3 * vertex_count (rings_of c.args.rings.now)) probes visits c.args.count.now c.meeting_found.new.count
named g c swept =
    named_work c.args.vertices.now c.in_ok-found.found (vertex_count (rings_of c.args.rings.now)) c.requires.vertices.count c.in_ok-found.ensures.some swept c.meeting_found.ensures.counted
    c.meeting_found.ensures.untested

-- by vertices alone
by_vertices : (rings : List (List Position)) (before after : Counted) → let many = vertex_count rings in let turns = turn_count rings in
    AddsWork (3 * many) (many + turns * (2 * bits many)) (turns * (12 * bits many)) before after → AddsWork (3 * many) (many * (2 * bits many + 2)) (many * (20 * bits many)) before after
by_vertices rings before after work =
    work_of_vertices (vertex_count rings) (turn_count rings) (bits (vertex_count rings)) (vertex_count rings) 2 before after (turns_among_vertices rings) (omega arith) work

pub returns-in_err-found-clause-turns : goal.returns-in_err-found-clause-turns
returns-in_err-found-clause-turns g c = with_no_more_tests (vertex_count (rings_of c.args.rings.now)) (work g (goal.at.returns-in_err-found-clause-turns g c).After-sweep)

pub returns-clause-turns : goal.returns-clause-turns
returns-clause-turns g c = let at = goal.at.returns-clause-turns g c in named g at.After-meeting_found (work g at.After-sweep)

pub returns-in_err-found-clause-counted : goal.returns-in_err-found-clause-counted
returns-in_err-found-clause-counted g c =
    let rings = rings_of c.args.rings.now in
    by_vertices rings c.args.count.now c.sweep.new.count (with_no_more_tests (vertex_count rings) (work g (goal.at.returns-in_err-found-clause-counted g c).After-sweep))

pub returns-clause-counted : goal.returns-clause-counted
returns-clause-counted g c =
    let at = goal.at.returns-clause-counted g c in
    by_vertices (rings_of c.args.rings.now) c.args.count.now c.meeting_found.new.count (named g at.After-meeting_found (work g at.After-sweep))

-- where no meeting is returned, none was found
nothing : (g : given.Over) (c : After-meeting_found g) → c.meeting_found.result ≡ None → c.in_ok-found.found ≡ None
nothing g c is = subst (λ (named : Option MeetingOf). IfNone named (c.in_ok-found.found ≡ None)) is c.meeting_found.ensures.none

pub returns-clause-least : goal.returns-clause-least
returns-clause-least g c =
    let many = vertex_count (rings_of c.args.rings.now) in
    let at = goal.at.returns-clause-least g c in
    let before = c.meeting_at_one_position.new.count in
    let untouched : before ≡ c.args.count.now = rw c.in_default.is at c.meeting_at_one_position.ensures.untested in
    elim c.match-meeting_found.branch [
      | in-Some-meeting_found w ↦ rw w.result-is
          (let tested = subst (λ (named : Option MeetingOf). IfSome named (λ _. ticked c.sweep.new.count.tests ≤ c.meeting_found.new.count.tests)) w.in-Some-meeting_found.is c.meeting_found.ensures.tested in
          omega (arith, tested, (work g at.After-sweep).no_fewer_tests))
      | in-None w ↦ rw w.result-is
          (let none = nothing g at.After-meeting_found w.in-None.is in
          let same = subst (λ (found : Option Pair). IfNone found (c.meeting_found.new.count ≡ c.sweep.new.count)) none c.meeting_found.ensures.untested in
          let least = subst (IsCounted (length c.deref-2.result.now) before c.sweep.new.count) none c.in_ok-found.ensures.least in
          let size : length c.deref-2.result.now ≡ many = ap length c.deref-2.ensures.value ∙ c.in_ok-order.ensures.whole ∙ c.requires.vertices.count in
          let probes : before.probes ≡ c.args.count.now.probes = ap (λ (count : Counted). count.probes) untouched in
          omega (arith, least, size, probes, ap (λ (count : Counted). count.probes) same))
    ]

pub returns-clause-swept : goal.returns-clause-swept
returns-clause-swept g c =
    let rings = rings_of c.args.rings.now in
    let vertices = c.args.vertices.now in
    let swept = IsSweptWith rings vertices (g.N.Notes.are_noted rings vertices) in
    elim c.match-meeting_found.branch [
      | in-Some-meeting_found w ↦ subst swept (sym w.result-is) (subst (λ (named : Option MeetingOf). IfSome named (IsMeetingOf rings)) w.in-Some-meeting_found.is c.meeting_found.ensures.some)
      | in-None w ↦
          let none = nothing g (goal.at.returns-clause-swept g c).After-meeting_found w.in-None.is in
          subst swept (sym w.result-is) (
            none_of_rings rings vertices c.requires.rings c.requires.vertices (rw none at c.in_ok-found.ensures.none),
            rings_in_range rings vertices c.requires.rings c.requires.vertices,
            (rw none at c.in_ok-found.ensures.noted) rings (c.in_ok-notes.ensures vertices c.requires.rings c.requires.vertices),
          )
    ]

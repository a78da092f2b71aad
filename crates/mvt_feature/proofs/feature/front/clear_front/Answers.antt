use Rattle.std.proofs.Common.{ℕ, ◌+◌, ◌≤◌, List, length, take, refl, sym, subst, arith}
use Rattle.std.proofs.lemmas.List.{take_all}
use Rattle.std.proofs.lemmas.Result.{IfOk-weaker}
use Rattle.mvt_plane.specs.Counted.{ticked}
use Rattle.mvt_plane.specs.Position.{Position}
use Rattle.mvt_sweep.specs.Work.{IsCounted, vertex_count}
use Rattle.mvt_feature.specs.declared.feature.front.Front.{Front}
use Rattle.mvt_sweep.specs.declared.sweep.notes.RingNotes.{RingNotes}
use Rattle.mvt_sweep.specs.declared.sweep.swept.Swept.{Swept}
use Rattle.mvt_feature.proofs.Features.FrontHalves.{if_ok_some}
use Rattle.mvt_feature.proofs.Features.SweepsAdded.{fewer_vertices, one_sweep, sweeps_then}
use Rattle.mvt_status.specs.Counts.{bits, raised}
use Rattle.mvt_sweep.specs.Meeting.{first_of, second_of, IsMeetingOf}
use Rattle.mvt_sweep.specs.Rings.{rings_of}
use Rattle.mvt_sweep.proofs.Vertices.RingReads.{count_of_rings}
use Rattle.mvt_sweep.specs.Swept.{IsNotedClear, IsSweptAnswer, met_in}
use Rattle.mvt_feature.proofs.feature.front.clear_front.Goals as goal

pub returns-in-Meets-clause-apart : goal.returns-in-Meets-clause-apart
returns-in-Meets-clause-apart c none =
    let meeting = c.in-Meets.meeting in
    let meets : IsMeetingOf (rings_of c.args.rings.now) meeting = subst (IsSweptAnswer (rings_of c.args.rings.now)) c.in-Meets.is c.in_ok-notes.ensures.answer in
    absurd (none (first_of meeting) (second_of meeting) meeting.point meets.meets)

pub returns-in-Clear-clause-probed : goal.returns-in-Clear-clause-probed
returns-in-Clear-clause-probed c =
    let rings = rings_of c.args.rings.now in
    let least : raised (vertex_count rings) c.args.count.now.probes ≤ c.sweep_rings.new.count.probes =
    subst (λ (swept : Swept RingNotes). IsCounted (vertex_count rings) c.args.count.now c.sweep_rings.new.count (met_in swept)) c.in-Clear.is c.in_ok-notes.ensures.least in
    omega (arith, least, fewer_vertices (length c.args.rings.now) rings)

pub returns-in-Meets-clause-probed : goal.returns-in-Meets-clause-probed
returns-in-Meets-clause-probed c =
    let sweep = c.sweep_rings.ensures.counted in
    let Least : ℕ → Front → Type 0 = λ before front. raised (vertex_count (take front.rings (rings_of c.args.rings.now))) before ≤ c.front_before.new.count.probes in
    IfOk-weaker c.front_before.result (Least c.sweep_rings.new.count.probes) (Least c.args.count.now.probes) (λ front least. omega (arith, least, sweep.no_fewer_probes)) c.front_before.ensures.probed

pub returns-in-Meets-clause-tested : goal.returns-in-Meets-clause-tested
returns-in-Meets-clause-tested c =
    let test : ticked c.args.count.now.tests ≤ c.sweep_rings.new.count.tests =
    subst (λ (swept : Swept RingNotes). IsCounted (vertex_count (rings_of c.args.rings.now)) c.args.count.now c.sweep_rings.new.count (met_in swept)) c.in-Meets.is c.in_ok-notes.ensures.least in
    let work = c.front_before.ensures.counted in
    if_ok_some c.front_before.result (λ (front : Front). front.meeting) (ticked c.args.count.now.tests ≤ c.front_before.new.count.tests) (omega (arith, test, work.no_fewer_tests))

pub returns-in-Clear-clause-front : goal.returns-in-Clear-clause-front
returns-in-Clear-clause-front c =
    let rings = rings_of c.args.rings.now in
    let count = count_of_rings c.args.rings.now in
    let noted : IsNotedClear rings c.in-Clear.notes = subst (IsSweptAnswer rings) c.in-Clear.is c.in_ok-notes.ensures.answer in
    record {
      polygons_within = omega arith;
      rings_within = omega arith;
      noted = subst (λ (its : List (List Position)). IsNotedClear its c.in-Clear.notes) (sym (take_all (length c.args.rings.now) rings (omega arith))) noted;
      following = (refl, sym count);
    }

pub returns-in-Clear-clause-least : goal.returns-in-Clear-clause-least
returns-in-Clear-clause-least c =
    subst (λ (swept : Swept RingNotes). IsCounted (vertex_count (rings_of c.args.rings.now)) c.args.count.now c.sweep_rings.new.count (met_in swept)) c.in-Clear.is c.in_ok-notes.ensures.least

pub returns-in-Meets-clause-counted : goal.returns-in-Meets-clause-counted
returns-in-Meets-clause-counted c =
    let vertices = vertex_count (rings_of c.args.rings.now) in
    let polygons = length c.args.polygons.now in
    sweeps_then 1 (bits polygons) (bits polygons + 1) vertices c.args.count.now c.sweep_rings.new.count c.front_before.new.count (omega arith)
    (one_sweep vertices vertices c.args.count.now c.sweep_rings.new.count (omega arith) c.sweep_rings.ensures.counted) c.front_before.ensures.counted

pub front_before-requires-clause-meets : goal.front_before-requires-clause-meets
front_before-requires-clause-meets c =
    subst (IsSweptAnswer (rings_of c.args.rings.now)) c.in-Meets.is c.in_ok-notes.ensures.answer

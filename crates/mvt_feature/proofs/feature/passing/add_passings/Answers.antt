use Rattle.std.proofs.Common.{◌≡◌, ◌<◌, ◌≤◌, ℕ, length, arith}
use Rattle.std.proofs.lemmas.Result.{IfOk-weaker}
use Rattle.mvt_sweep.specs.Meeting.{first_of, second_of}
use Rattle.mvt_polygon.specs.Nesting.{one_polygon}
use Rattle.mvt_feature.specs.Calls.Passings.{AreAdded, IsPassing, passing_by}
use Rattle.mvt_sweep.specs.Rings.{rings_of}
use Rattle.mvt_sweep.specs.RingsAround.{nearest_at}
use Rattle.mvt_feature.specs.declared.feature.passing.Passing.{Passing}
use Rattle.mvt_feature.proofs.Placed.AddedPassings.{ok_always, said_of_added}
use Rattle.mvt_feature.proofs.Placed.OwnPassings.{own_passing}
use Rattle.mvt_sweep.proofs.Sweeps.StatusCounts.{no_work}
use Rattle.mvt_sweep.proofs.Vertices.RingReads.{count_of_rings}
use Rattle.mvt_sweep.specs.Work.{vertex_count}
use Rattle.mvt_status.specs.Counts.{raised}
use Rattle.mvt_feature.proofs.feature.passing.add_passings.Goals as goal

pub unreachable-requires : goal.unreachable-requires
unreachable-requires c =
    let meeting = c.in-Meets.field-0 in
    let found = rw c.in-Meets.is at c.in_ok-notes.ensures.answer in
    c.requires.clear (first_of meeting) (second_of meeting) meeting.point found.meets

pub returns-clause-added : goal.returns-clause-added
returns-clause-added c =
    let rings = rings_of c.args.rings.now in
    let many = length c.args.rings.now in
    let notes = c.in-Clear.notes in
    let noted = rw c.in-Clear.is at c.in_ok-notes.ensures.answer in
    let before = c.args.passings.now.items in
    let after = c.push_passings.new.passings.items in
    let Said : ℕ → Passing → Type 0 = λ ring passing. passing ≡ passing_by (nearest_at notes.around.items 0) ring (nearest_at notes.around.items ring) in
    IfOk-weaker c.push_passings.result (λ _. AreAdded many Said before after) (λ _. AreAdded many (IsPassing rings (one_polygon rings)) before after)
    (λ _ added. said_of_added many Said (IsPassing rings (one_polygon rings)) before after added
    (λ ring passing less is. own_passing rings notes.around.items notes.come_to.items ring passing noted.noted (omega (arith, count_of_rings c.args.rings.now)) is))
    c.push_passings.ensures

pub returns-clause-least : goal.returns-clause-least
returns-clause-least c =
    let rings = rings_of c.args.rings.now in
    let least = rw c.in-Clear.is at c.in_ok-notes.ensures.least in
    ok_always c.push_passings.result (1 < length c.args.rings.now → raised (vertex_count rings) c.args.count.now.probes ≤ c.sweep_rings.new.count.probes) (λ _. least)

pub push_passings-requires : goal.push_passings-requires
push_passings-requires c =
    let noted = rw c.in-Clear.is at c.in_ok-notes.ensures.answer in
    omega (arith, noted.noted.count, count_of_rings c.args.rings.now)

pub returns-then-rings-eq1-clause-counted : goal.returns-then-rings-eq1-clause-counted
returns-then-rings-eq1-clause-counted c =
    no_work c.args.count.now

pub returns-in_err-push-clause-counted : goal.returns-in_err-push-clause-counted
returns-in_err-push-clause-counted c =
    no_work c.args.count.now

pub returns-clause-counted : goal.returns-clause-counted
returns-clause-counted c =
    c.sweep_rings.ensures.counted

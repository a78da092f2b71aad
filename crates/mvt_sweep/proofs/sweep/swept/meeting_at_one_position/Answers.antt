use Rattle.std.proofs.Common.{◌≡◌, IfNone, arith}
use Rattle.mvt_sweep.specs.Calls.VertexOrder.{IsStrict}
use Rattle.mvt_sweep.proofs.Sweeps.MeetingsFound.{none_named, together_found}
use Rattle.mvt_sweep.proofs.Sweeps.StatusCounts.{work_then, work_within}
use Rattle.mvt_sweep.proofs.sweep.swept.meeting_at_one_position.Goals as goal
use Rattle.mvt_sweep.proofs.sweep.swept.meeting_at_one_position.Goals.{After-meeting_found}

-- edges of vertices at one position meet
found : (c : After-meeting_found) (P : Type 0) → IfNone c.meeting_found.result P
found c P =
    none_named c.meeting-found.result c.meeting_found.result P c.meeting_found.ensures.none
    (together_found c.args.vertices.now c.in_ok-first.first c.in_ok-first.second c.meeting-found.result P c.in_ok-first.ensures.some c.meeting-found.ensures.none)

pub returns-clause-none : goal.returns-clause-none
returns-clause-none c = found (goal.at.returns-clause-none c).After-meeting_found (IsStrict c.args.vertices.now c.args.order.now)

pub returns-clause-untested : goal.returns-clause-untested
returns-clause-untested c = found (goal.at.returns-clause-untested c).After-meeting_found (c.meeting_found.new.count ≡ c.args.count.now)

pub returns-clause-counted : goal.returns-clause-counted
returns-clause-counted c =
    work_within (omega (arith, c.in_ok-first.ensures.some.first_known, c.requires.vertices.count)) (omega arith) (omega arith) (work_then c.meeting-found.ensures.counted c.meeting_found.ensures.counted)

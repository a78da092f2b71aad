use Rattle.std.proofs.Common.{◌≡◌, ◌≤◌, IfNone, IfSome, None, Option, subst, sym, arith}
use Rattle.mvt_plane.specs.Counted.{ticked}
use Rattle.mvt_sweep.specs.Calls.SweepVertices.{IsMeetingAt}
use Rattle.mvt_sweep.specs.declared.sweep.vertices.Pair.{Pair}
use Rattle.mvt_sweep.proofs.Sweeps.MeetingsFound.{if_some, pair_meets}
use Rattle.mvt_sweep.proofs.sweep.swept.meeting_found.Goals as goal

pub returns-clause-none : goal.returns-clause-none
returns-clause-none c =
    let vertices = c.args.vertices.now in
    let meets = subst (λ (it : Option Pair). IfSome it (IsMeetingAt vertices)) c.in_ok-pair.was c.requires.found in
    pair_meets vertices c.in_ok-pair.pair c.meeting_of_pair.result (c.args.found ≡ None) meets c.meeting_of_pair.ensures.none

pub returns-clause-untested : goal.returns-clause-untested
returns-clause-untested c = subst (λ (it : Option Pair). IfNone it (c.meeting_of_pair.new.count ≡ c.args.count.now)) (sym c.in_ok-pair.was) tt

pub returns-clause-tested : goal.returns-clause-tested
returns-clause-tested c = if_some c.meeting_of_pair.result (ticked c.args.count.now.tests ≤ c.meeting_of_pair.new.count.tests) (omega arith)

use Rattle.std.proofs.Common.{◌≡◌, ℕ}
use Rattle.mvt_feature.specs.Calls.Passings.{passing_by}
use Rattle.mvt_sweep.specs.RingsAround.{nearest_at}
use Rattle.mvt_feature.specs.declared.feature.passing.Passing.{Passing}
use Rattle.mvt_feature.proofs.Placed.AddedPassings.{one_added}
use Rattle.mvt_feature.proofs.feature.passing.push_passings.Goals as goal

pub loop-ring-preserved : goal.loop-ring-preserved
loop-ring-preserved c =
    let notes = c.args.notes.now.around.items in
    rw c.in_ok-push.ensures.items
    (one_added c.loop-ring.ring (λ (ring : ℕ) (passing : Passing). passing ≡ passing_by (nearest_at notes 0) ring (nearest_at notes ring)) c.args.passings.now.items c.loop-ring.passings.items
    c.passing_of.result c.loop-ring.invariant c.passing_of.ensures)

use Rattle.std.proofs.Common.{◌≡◌}
use Rattle.mvt_feature.specs.Calls.Passings.{AreAdded, passing_by}
use Rattle.mvt_sweep.specs.RingsAround.{nearest_at}
use Rattle.mvt_feature.proofs.feature.passing.push_passings.Given as goal

-- so many rings are added
abbrev pub invariant-loop-ring : goal.invariant-loop-ring
invariant-loop-ring l =
    AreAdded l.ring (λ ring passing. passing ≡ passing_by (nearest_at l.notes.around.items 0) ring (nearest_at l.notes.around.items ring)) l.fn.passings.items l.passings.items

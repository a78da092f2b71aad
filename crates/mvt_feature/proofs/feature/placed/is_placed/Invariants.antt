use Rattle.std.proofs.Common.{◌≡◌, ℕ, ◌<◌, Some}
use Rattle.mvt_sweep.specs.RingsAround.{nearest_at}
use Rattle.mvt_feature.proofs.feature.placed.is_placed.Given as goal

-- the exterior is directly around each hole so far
abbrev pub invariant-loop-hole : goal.invariant-loop-hole
invariant-loop-hole l = (hole : ℕ) → hole < l.hole → l.exterior < hole → nearest_at l.notes.around.items hole ≡ Some l.exterior

use Rattle.std.proofs.Common.{length, ◌-◌, ◌≤◌, ◌↔◌}
use Rattle.mvt_confirm.specs.Calls.Walking.{AreSmallFrom}
use Rattle.mvt_confirm.proofs.tile.payload.are_small.Given as goal

-- what is left decides
abbrev pub invariant-walk : goal.invariant-walk
invariant-walk l = (l.at ≤ length l.part) × (AreSmallFrom l.part l.at ↔ AreSmallFrom l.part 0)

abbrev pub decreases-walk : goal.decreases-walk
decreases-walk l = length l.part - l.at

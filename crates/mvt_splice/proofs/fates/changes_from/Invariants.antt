use Rattle.std.proofs.Common.{◌≤◌, ◌-◌, length, drop}
use Rattle.mvt_splice.specs.Calls.Fates.{AreChangesLeft}
use Rattle.mvt_splice.proofs.fates.changes_from.Given as goal

-- the changes from the place on are left
abbrev pub invariant-passed : goal.invariant-passed
invariant-passed l = record { within : l.first ≤ length l.changes; left : AreChangesLeft l.changes l.layer l.feature (drop l.first l.changes) }

abbrev pub decreases-passed : goal.decreases-passed
decreases-passed l = length l.changes - l.first

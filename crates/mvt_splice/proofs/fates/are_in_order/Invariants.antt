use Rattle.std.proofs.Common.{take}
use Rattle.mvt_splice.specs.Splice.{AreChangesInOrder}
use Rattle.mvt_splice.proofs.fates.are_in_order.Given as goal

-- the changes that were seen are in order
abbrev pub invariant-seen : goal.invariant-seen
invariant-seen l = AreChangesInOrder (take l.i l.changes)

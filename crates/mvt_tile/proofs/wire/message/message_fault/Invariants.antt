use Rattle.std.proofs.Common.{◌-◌, length}
use Rattle.mvt_tile.proofs.WireFaults.Walking.{MessageWalk}
use Rattle.mvt_tile.proofs.wire.message.message_fault.Given as goal

abbrev pub invariant-walk : goal.invariant-walk
invariant-walk g l = MessageWalk l.message l.front l.part.from l.at l.scan

abbrev pub decreases-walk : goal.decreases-walk
decreases-walk g l = length l.front - l.at

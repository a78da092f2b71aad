use Rattle.std.proofs.Common.{◌-◌, length}
use Rattle.mvt_tile.proofs.WireFaults.TileWalk.{TileWalk}
use Rattle.mvt_tile.proofs.wire.wire_fault_after.Given as goal

abbrev pub invariant-walk : goal.invariant-walk
invariant-walk l = TileWalk l.bytes l.at l.own l.layers

abbrev pub decreases-walk : goal.decreases-walk
decreases-walk l = length l.bytes - l.at

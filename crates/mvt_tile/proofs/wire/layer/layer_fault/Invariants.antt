use Rattle.std.proofs.Common.{◌-◌}
use Rattle.mvt_tile.proofs.WireFaults.LayerWalk.{LayerWalk}
use Rattle.mvt_tile.proofs.wire.layer.layer_fault.Given as goal

abbrev pub invariant-walk : goal.invariant-walk
invariant-walk l = LayerWalk l.part.bytes.now l.passed l.part.from l.part.to l.at l.own l.values l.features

abbrev pub decreases-walk : goal.decreases-walk
decreases-walk l = l.part.to - l.at

use Rattle.std.proofs.Common.{◌-◌, length}
use Rattle.mvt_rules.specs.Tile.{FeatureRecord}
use Rattle.mvt_tile.proofs.OneWalk.Layers.{IsLayerPassed}
use Rattle.mvt_tile.proofs.walk.layer.walk_layer.Given as goal

-- the fields that were passed have no fault, and what was kept before still is
abbrev pub invariant-walk : goal.invariant-walk
invariant-walk over l =
    IsLayerPassed (over.T.FeatureTest.IsKept l.test) l.part.bytes.now l.part.from l.part.to l.at l.own l.summary l.needs
    × ((it : FeatureRecord) → over.T.FeatureTest.IsKept l.fn.test it → over.T.FeatureTest.IsKept l.test it)

abbrev pub decreases-walk : goal.decreases-walk
decreases-walk over l = length l.front - l.at

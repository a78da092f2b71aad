use Rattle.std.proofs.Common.{◌-◌, length}
use Rattle.mvt_tile.proofs.RuleFaults.TileScan.{IsTileScan}
use Rattle.mvt_tile.proofs.rules.walk_layers.Given as goal

-- the names of the layers that were passed, and what was found of their features
abbrev pub invariant-walk : goal.invariant-walk
invariant-walk over l = IsTileScan over.R.FeatureRule.IsFree over.R.FeatureRule.IsBroken over.R.FeatureRule.IsKept l.bytes l.found l.layers l.fields l.layer_index

abbrev pub decreases-walk : goal.decreases-walk
decreases-walk over l = length l.fields.bytes - l.fields.at

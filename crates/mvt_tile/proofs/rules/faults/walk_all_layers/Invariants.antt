use Rattle.std.proofs.Common.{◌-◌, length}
use Rattle.mvt_tile.proofs.RuleFaults.GatheredScan.{IsTileGather}
use Rattle.mvt_tile.proofs.rules.faults.walk_all_layers.Given as goal

-- the summaries of the layers that were passed, and the first faults of their features
abbrev pub invariant-walk : goal.invariant-walk
invariant-walk over l = IsTileGather over.R.FeatureRule.IsFree over.R.FeatureRule.IsBroken over.R.FeatureRule.IsKept l.bytes l.layers.items l.faults.items l.fields l.layer_index

abbrev pub decreases-walk : goal.decreases-walk
decreases-walk over l = length l.fields.bytes - l.fields.at

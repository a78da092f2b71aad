use Rattle.std.proofs.Common.{◌-◌, length}
use Rattle.mvt_tile.proofs.RuleFaults.FeatureScan.{IsLayerScan}
use Rattle.mvt_tile.proofs.rules.layer_scan.scan_layer.Given as goal

-- the content of the fields that were passed, and what was found of their features
abbrev pub invariant-walk : goal.invariant-walk
invariant-walk over l =
    IsLayerScan over.R.FeatureRule.IsFree over.R.FeatureRule.IsBroken over.R.FeatureRule.IsKept l.part.bytes.now (record { from = l.part.from; to = l.part.to }) l.layer_index l.keys l.values l.fn.found l.summary l.needs l.found l.fields l.feature_index

abbrev pub decreases-walk : goal.decreases-walk
decreases-walk over l = length l.fields.bytes - l.fields.at

use Rattle.std.proofs.Common.{◌≡◌, ◌-◌, None, length}
use Rattle.mvt_tile.proofs.RuleFaults.PolygonScan.{PassedFeatures}
use Rattle.mvt_tile.proofs.rules.polygons.find_in_layer.Given as goal

-- the features that were passed are sound
abbrev pub invariant-walk : goal.invariant-walk
invariant-walk over l = record {
  passed : PassedFeatures over.R.FeatureRule.IsBroken over.R.FeatureRule.IsKept l.part.bytes.now (record { from = l.part.from; to = l.part.to }) l.layer_index l.fields l.feature_index;
  nothing : l.found ≡ None;
}

abbrev pub decreases-walk : goal.decreases-walk
decreases-walk over l = length l.fields.bytes - l.fields.at

use Rattle.std.proofs.Common.{◌≡◌, ◌-◌, None, length}
use Rattle.mvt_tile.proofs.RuleFaults.PolygonScan.{PassedLayers}
use Rattle.mvt_tile.proofs.rules.polygons.polygon_fault.Given as goal

-- the features of the layers that were passed are sound
abbrev pub invariant-walk : goal.invariant-walk
invariant-walk over l = record {
  passed : PassedLayers over.R.FeatureRule.IsBroken over.R.FeatureRule.IsKept l.bytes l.fields l.layer_index;
  nothing : l.found ≡ None;
}

abbrev pub decreases-walk : goal.decreases-walk
decreases-walk over l = length l.fields.bytes - l.fields.at

use Rattle.std.proofs.Common.{◌-◌, ◌≤◌, length}
use Rattle.mvt_mender.proofs.FeatureWalks.{IsTileWalk}
use Rattle.mvt_mender.proofs.features.features_at.Given as goal

-- the layers that were passed, and the features found in them
abbrev pub invariant-walk : goal.invariant-walk
invariant-walk l = record {
  walk : IsTileWalk l.bytes l.places l.fields l.layer l.found.items;
  few : l.layer ≤ l.fields.at;
}

abbrev pub decreases-walk : goal.decreases-walk
decreases-walk l = length l.fields.bytes - l.fields.at

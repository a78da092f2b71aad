use Rattle.std.proofs.Common.{◌-◌, ◌≤◌, length}
use Rattle.mvt_mender.proofs.FeatureWalks.{IsLayerWalk}
use Rattle.mvt_mender.proofs.features.add_features.Given as goal

-- the features that were passed, and those found among them
abbrev pub invariant-walk : goal.invariant-walk
invariant-walk l = record {
  walk : IsLayerWalk l.part.bytes.now l.places (record { from = l.part.from; to = l.part.to }) l.layer l.fn.found.items l.fields l.feature l.found.items;
  few : l.feature ≤ l.fields.at;
}

abbrev pub decreases-walk : goal.decreases-walk
decreases-walk l = length l.fields.bytes - l.fields.at

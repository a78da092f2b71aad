use Rattle.std.proofs.Common.{ℕ}
use Rattle.mvt_wire.specs.Numbers.{most_left}
use Rattle.mvt_rules.specs.Tile.{FeatureRecord}
use Rattle.mvt_confirm.specs.Calls.FeatureMessage.{IsFeatureAt}
use Rattle.mvt_confirm.specs.Calls.Tags.{HasPassed}
use Rattle.mvt_confirm.proofs.Features.TagWalks.{IsParity}
use Rattle.mvt_confirm.proofs.tags.are_pairs.Given as goal

-- the tags that were passed are pairs, or pairs and one more
abbrev pub invariant-walk : goal.invariant-walk
invariant-walk l = (feature_record : FeatureRecord) → IsFeatureAt l.feature feature_record
    → (passed : ℕ) × HasPassed feature_record.tags l.numbers passed × IsParity l.pairs passed

abbrev pub decreases-walk : goal.decreases-walk
decreases-walk l = most_left l.numbers

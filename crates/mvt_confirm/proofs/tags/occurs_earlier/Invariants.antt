use Rattle.std.proofs.Common.{◌≡◌, ℕ, ◌*◌, ◌<◌, Some, slice_get}
use Rattle.mvt_rules.specs.Tile.{FeatureRecord}
use Rattle.mvt_confirm.specs.Calls.FeatureMessage.{IsFeatureAt}
use Rattle.mvt_confirm.specs.Calls.Tags.{HasPassed}
use Rattle.mvt_confirm.proofs.tags.occurs_earlier.Given as goal

-- the key occurred at no even place of the tags that were passed
abbrev pub invariant-walk : goal.invariant-walk
invariant-walk l = (feature_record : FeatureRecord) → IsFeatureAt l.feature feature_record
    → HasPassed feature_record.tags l.numbers l.place × ((pair : ℕ) → 2 * pair < l.place → ¬ (slice_get feature_record.tags (2 * pair) ≡ Some l.key))

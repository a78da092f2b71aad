use Rattle.mvt_rules.specs.Tile.{FeatureRecord}
use Rattle.mvt_confirm.specs.Calls.FeatureMessage.{IsFeatureAt}
use Rattle.mvt_confirm.specs.Calls.Tags.{HasPassed}
use Rattle.mvt_confirm.proofs.tags.tags_from.Given as goal

-- as many tags were passed as there were steps
abbrev pub invariant-walk : goal.invariant-walk
invariant-walk l = (feature_record : FeatureRecord) → IsFeatureAt l.feature feature_record → HasPassed feature_record.tags l.numbers l.counter

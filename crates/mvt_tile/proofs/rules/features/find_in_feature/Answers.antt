use Rattle.std.proofs.Common.{length}
use Rattle.mvt_tile.specs.FeatureBytes.{Encodes}
use Rattle.mvt_tile.specs.FreeFaults.{of_least}
use Rattle.mvt_tile.specs.Enough.{IsLike}
use Rattle.mvt_tile.proofs.RuleFaults.FeatureFaults.{HasSameTagFaults-like, rule_decides, tags_decide}
use Rattle.mvt_tile.proofs.RuleFaults.TagFaults.{no_tags}
use Rattle.mvt_tile.proofs.rules.features.find_in_feature.Goals as goal

pub returns-then-has_no_tag-clause-finds : goal.returns-then-has_no_tag-clause-finds
returns-then-has_no_tag-clause-finds over c =
    rule_decides over.R.FeatureRule.IsBroken over.R.FeatureRule.IsFree over.R.FeatureRule.IsKept (Encodes c.args.feature.now) (IsLike c.args.keys c.args.values c.args.needs.now) c.args.layer_index c.args.feature_index c.find_fault.result c.find_fault.new.found
    c.find_fault.ensures.none c.find_fault.ensures.kept c.find_fault.ensures.found
    (λ layer_record it encodes like. no_tags (length layer_record.keys) (length layer_record.values) it.tags (c.has_no_tag.ensures c.if-has_no_tag.true it encodes))

pub returns-in_default-clause-finds : goal.returns-in_default-clause-finds
returns-in_default-clause-finds over c =
    rule_decides over.R.FeatureRule.IsBroken over.R.FeatureRule.IsFree over.R.FeatureRule.IsKept (Encodes c.args.feature.now) (IsLike c.args.keys c.args.values c.add.new.self) c.args.layer_index c.args.feature_index c.find_fault-in_default.result c.find_fault-in_default.new.found
    c.find_fault-in_default.ensures.none c.find_fault-in_default.ensures.kept c.find_fault-in_default.ensures.found
    (λ layer_record it encodes like code place broken.
    let left = c.tags-tags.ensures.all it encodes in
    let same = HasSameTagFaults-like c.args.keys c.args.values c.add.new.self c.in_ok-scan_tags.field-0 layer_record it.tags (c.in_ok-scan_tags.ensures it.tags left).1 c.add.ensures.keys.1 c.add.ensures.values.1 like in
    (rw c.in_default.is at (c.in_ok-scan_tags.ensures it.tags left).0) code place (same.back code place broken))

pub returns-clause-finds : goal.returns-clause-finds
returns-clause-finds over c = λ layer_record it encodes like.
    let left = c.tags-tags.ensures.all it encodes in
    let same = HasSameTagFaults-like c.args.keys c.args.values c.add.new.self c.in_ok-scan_tags.field-0 layer_record it.tags (c.in_ok-scan_tags.ensures it.tags left).1 c.add.ensures.keys.1 c.add.ensures.values.1 like in
    of_least (tags_decide over.R.FeatureRule.IsBroken c.args.keys c.args.values layer_record it same c.args.layer_index c.args.feature_index (c.requires.after_tags it c.args.layer_index c.args.feature_index) c.in-Some.code c.in-Some.index
    (rw c.in-Some.is at (c.in_ok-scan_tags.ensures it.tags left).0))

use Rattle.mvt_fault.proofs.Candidates.{feature_only, tag_code-range}
use Rattle.mvt_fault.proofs.reading.rules.tag_candidate.Goals as goal

pub returns : goal.returns
returns c =
    let made = rw c.code.ensures at c.in_ok-feature_rule_object.ensures in
    record {
      only = feature_only _ _ _ _ _ _ c.requires c.ordinal_at-layer.ensures c.ordinal_at-feature.ensures c.ordinal_at-index.ensures made
          (tag_code-range c.args.code);
      fault = (made, tt);
    }

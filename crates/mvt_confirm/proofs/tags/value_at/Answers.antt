use Rattle.mvt_confirm.proofs.Features.TagRules.{value_decides}
use Rattle.mvt_confirm.proofs.tags.value_at.Goals as goal

pub returns : goal.returns
returns c = λ feature_record value is.
    value_decides feature_record.tags c.args.index c.tag_of_pairs.result value (c.tag_of_pairs.ensures feature_record value is) (λ even. let holds = c.if-is_even.ensures.1 even in absurd (cc holds))

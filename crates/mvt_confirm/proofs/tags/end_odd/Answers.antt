use Rattle.mvt_confirm.proofs.Features.TagRules.{odd_decides}
use Rattle.mvt_confirm.proofs.tags.end_odd.Goals as goal

pub returns-then-not-is_even : goal.returns-then-not-is_even
returns-then-not-is_even c = λ feature_record is.
    odd_decides feature_record.tags c.args.index c.end_at.result (λ even. let holds = c.if-not-is_even.ensures.1 even in absurd (cc holds)) (c.end_at.ensures feature_record is)

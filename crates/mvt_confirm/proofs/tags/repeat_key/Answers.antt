use Rattle.mvt_confirm.proofs.Features.TagRules.{again_decides}
use Rattle.mvt_confirm.proofs.tags.repeat_key.Goals as goal

pub returns-in-Some : goal.returns-in-Some
returns-in-Some c = λ feature_record is.
    again_decides feature_record.tags c.args.index c.in-Some.key c.occurs_earlier.result (λ key. c.in-Some.ensures feature_record key is) (c.occurs_earlier.ensures feature_record is)

pub returns-in-None : goal.returns-in-None
returns-in-None c = λ feature_record is.
    (λ holds. absurd (cc holds), λ again. let some = (c.in-None.ensures feature_record again.key is).1 again.here in absurd (cc some))

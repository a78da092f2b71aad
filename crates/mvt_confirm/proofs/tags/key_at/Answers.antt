use Rattle.std.proofs.Common.{refl}
use Rattle.mvt_confirm.proofs.Features.TagRules.{key_decides}
use Rattle.mvt_confirm.proofs.tags.key_at.Goals as goal

pub returns : goal.returns
returns c = λ feature_record key is.
    key_decides feature_record.tags c.args.index c.tag_of_pairs.result key (c.tag_of_pairs.ensures feature_record key is) (c.if-not-is_even.ensures.0 refl)

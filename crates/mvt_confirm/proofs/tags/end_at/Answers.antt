use Rattle.mvt_confirm.proofs.Features.TagWalks.{end_decides}
use Rattle.mvt_confirm.proofs.tags.end_at.Goals as goal

pub returns-in-Some : goal.returns-in-Some
returns-in-Some c = λ feature_record is.
    end_decides feature_record.tags c.in-Some.numbers c.next_number.new.numbers c.args.index c.next_number.result c.is_none.result (c.in-Some.ensures.there feature_record is)
    c.next_number.ensures.there c.is_none.ensures

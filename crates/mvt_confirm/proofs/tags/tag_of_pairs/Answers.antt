use Rattle.std.proofs.Common.{◌∙◌, sym, refl, arith}
use Rattle.std.proofs.lemmas.Option.{slice_get_within}
use Rattle.mvt_confirm.proofs.Features.TagWalks.{next_is}
use Rattle.mvt_confirm.proofs.tags.tag_of_pairs.Goals as goal

pub returns-then-not-are_pairs : goal.returns-then-not-are_pairs
returns-then-not-are_pairs c = λ feature_record number is.
    (λ some. absurd (cc some), λ there. let holds = (c.if-not-are_pairs.ensures feature_record is).1 there.0 in absurd (cc holds))

pub returns-in_err-numbers : goal.returns-in_err-numbers
returns-in_err-numbers c = λ feature_record number is. (
  λ some. let none = c.from_residual.ensures in absurd (cc (some, none)),
  λ there.
      let few = c.in_err-numbers.ensures.none feature_record is in
      let within = slice_get_within feature_record.tags c.args.index number there.1 in
      absurd (omega arith),
)

pub returns : goal.returns
returns c = λ feature_record number is.
    let found = next_is feature_record.tags c.in_ok-numbers.numbers c.next_number.new.numbers c.args.index c.next_number.result (c.in_ok-numbers.ensures.there feature_record is)
    c.next_number.ensures.there in
    let pairs = (c.if-not-are_pairs.ensures feature_record is).0 refl in
    (λ some. (pairs, sym found ∙ some), λ there. found ∙ there.1)

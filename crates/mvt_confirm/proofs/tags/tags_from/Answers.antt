use Rattle.std.proofs.Common.{◌≡◌, arith, subst}
use Rattle.mvt_confirm.specs.Calls.Tags.{HasPassed}
use Rattle.mvt_confirm.proofs.Features.TagWalks.{HasPassed-begin, next_given, all_passed}
use Rattle.mvt_confirm.proofs.tags.tags_from.Goals as goal

pub walk-init : goal.walk-init
walk-init c = λ feature_record is.
    HasPassed-begin feature_record.tags c.tags-numbers.result (c.tags-numbers.ensures feature_record is)

pub walk-preserved : goal.walk-preserved
walk-preserved c = λ feature_record is.
    (next_given feature_record.tags c.walk.numbers c.next_number.new.numbers c.walk.counter c.in-Some.field-0 (c.walk.invariant feature_record is) c.in-Some.ensures.there).1

pub returns-in_default-clause-none : goal.returns-in_default-clause-none
returns-in_default-clause-none c = λ feature_record is.
    let size = all_passed feature_record.tags c.walk.numbers c.walk.counter (c.walk.invariant feature_record is) c.in_default.ensures.there in
    let before = c.walk-test.true in
    omega arith

pub returns-clause-there : goal.returns-clause-there
returns-clause-there c = λ feature_record is.
    let over : c.walk.counter ≡ c.args.index = omega arith in
    subst (HasPassed feature_record.tags c.walk.numbers) over (c.walk.invariant feature_record is)

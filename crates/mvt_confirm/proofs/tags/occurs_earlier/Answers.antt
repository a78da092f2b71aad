use Rattle.std.proofs.Common.{◌≡◌, arith, subst, refl}
use Rattle.mvt_confirm.proofs.Features.TagWalks.{HasPassed-begin, next_given, all_passed, NoEarlierKey, NoEarlierKey-more, none_after, key_here}
use Rattle.mvt_confirm.proofs.tags.occurs_earlier.Goals as goal

pub walk-init : goal.walk-init
walk-init c = λ feature_record is. (
  HasPassed-begin feature_record.tags c.tags-numbers.result (c.tags-numbers.ensures feature_record is),
  λ pair less here. absurd (omega arith),
)

pub walk-preserved : goal.walk-preserved
walk-preserved c = λ feature_record is.
    let so_far = c.walk.invariant feature_record is in
    let next = next_given feature_record.tags c.walk.numbers c.next_number.new.numbers c.walk.place c.in-Some.number so_far.0 c.in-Some.ensures.there in
    (next.1, NoEarlierKey-more feature_record.tags c.args.key c.walk.place c.in-Some.number so_far.1 next.0 (λ key. let holds = c.if-is_key.ensures.1 key in absurd (cc holds)))

pub returns-in_default : goal.returns-in_default
returns-in_default c = λ feature_record is.
    let so_far = c.walk.invariant feature_record is in
    let size = all_passed feature_record.tags c.walk.numbers c.walk.place so_far.0 c.in_default.ensures.there in
    (λ holds. absurd (cc holds), λ key. absurd (none_after feature_record.tags c.args.key c.walk.place c.args.index so_far.1 size key.0 key.1 key.2))

pub returns-then-is_key : goal.returns-then-is_key
returns-then-is_key c = λ feature_record is.
    let so_far = c.walk.invariant feature_record is in
    let next = next_given feature_record.tags c.walk.numbers c.next_number.new.numbers c.walk.place c.in-Some.number so_far.0 c.in-Some.ensures.there in
    let key = c.if-is_key.ensures.0 refl in
    (λ holds. key_here feature_record.tags c.args.key c.walk.place c.in-Some.number c.args.index c.walk-test.true next.0 key, λ any. refl)

pub returns : goal.returns
returns c = λ feature_record is.
    let so_far = c.walk.invariant feature_record is in
    let over : c.walk.place ≡ c.args.index = omega arith in
    let none : NoEarlierKey feature_record.tags c.args.key c.args.index = subst (NoEarlierKey feature_record.tags c.args.key) over so_far.1 in
    (λ holds. absurd (cc holds), λ key. absurd (none key.0 key.1 key.2))

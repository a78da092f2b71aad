use Rattle.std.proofs.Common.{◌≡◌, ◌↔◌, ℕ, ◌*◌, ◌+◌, IsTrue, subst, sym, refl}
use Rattle.mvt_confirm.proofs.Features.TagWalks.{HasPassed-begin, next_given, all_passed, IsParity-more, parity_decides}
use Rattle.mvt_confirm.proofs.tags.are_pairs.Goals as goal

pub walk-init : goal.walk-init
walk-init c = λ feature_record is.
    (0, HasPassed-begin feature_record.tags c.tags-numbers.result (c.tags-numbers.ensures feature_record is), (0, refl))

pub walk-preserved : goal.walk-preserved
walk-preserved c = λ feature_record is.
    let so_far = c.walk.invariant feature_record is in
    let next = next_given feature_record.tags c.walk.numbers c.next_number.new.numbers so_far.0 c.in-Some.field-0 so_far.1 c.in-Some.ensures.there in
    (so_far.0 + 1, next.1, IsParity-more c.walk.pairs so_far.0 so_far.2)

pub returns : goal.returns
returns c = λ feature_record is.
    let so_far = c.walk.invariant feature_record is in
    let size = all_passed feature_record.tags c.walk.numbers so_far.0 so_far.1 c.in_default.ensures.there in
    subst (λ (n : ℕ). IsTrue c.walk.pairs ↔ ((pairs : ℕ) × (n ≡ 2 * pairs))) (sym size) (parity_decides c.walk.pairs so_far.0 so_far.2)

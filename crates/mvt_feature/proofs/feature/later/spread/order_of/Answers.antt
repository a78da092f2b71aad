use Rattle.std.proofs.Common.{◌≡◌, ℕ, length, subst, arith, rules}
use Rattle.std.proofs.lemmas.List.Sorted.{answers_always}
use Rattle.mvt_feature.proofs.Cells.SpreadOrder.{AreNumbered, numbered_more, order_sorted, left_read}
use Rattle.mvt_feature.proofs.feature.later.spread.order_of.Goals as goal

pub loop-number-preserved : goal.loop-number-preserved
loop-number-preserved c =
    rw c.in_ok-push.ensures.items
    (numbered_more c.args.bounds.now c.loop-number.number c.loop-number.order.items _ c.loop-number.invariant
    (left_read c.args.bounds.now c.loop-number.number _ (search rules)))

pub returns : goal.returns
returns c =
    let all : c.loop-number.number ≡ length c.args.bounds.now = omega arith in
    order_sorted c.args.bounds.now c.loop-number.order.items c.sort_unstable_by_key.new.self.items
    (subst (λ (count : ℕ). AreNumbered c.args.bounds.now count c.loop-number.order.items) all c.loop-number.invariant) c.sort_unstable_by_key.ensures.permutation
    (c.sort_unstable_by_key.ensures.sorted (λ pair. pair.0) (answers_always _ _ _ (λ f a r g h. search rules)))

use Rattle.std.proofs.Common.{ℕ, List, length, take, get_or, ap, sym, subst}
use Rattle.std.proofs.lemmas.List.{take_more, take_all}
use Rattle.mvt_wire.specs.Number.{VarintList}
use Rattle.mvt_splice.specs.Calls.Writing.{WritesVarint}
use Rattle.mvt_splice.proofs.Splicing.Encodings.{VarintList-more}
use Rattle.mvt_splice.proofs.writing.packed.Goals as goal

pub loop-number-init : goal.loop-number-init
loop-number-init c = sym (ap length c.new-out.ensures.items)

pub loop-number-preserved : goal.loop-number-preserved
loop-number-preserved c =
    let i = c.loop-number.number-index in
    let before = c.loop-number.out.items in
    let after = c.add_varint.new.out.items in
    subst (λ (numbers : List ℕ). VarintList after 0 numbers (length after)) (sym (take_more c.args.numbers.now i 0 c.loop-number-test.true))
    (VarintList-more (take i c.args.numbers.now) (get_or c.args.numbers.now i 0) before after c.loop-number.invariant
    (subst (λ (n : ℕ). WritesVarint n before after) c.from.ensures c.in_ok-add_varint.ensures))

pub returns : goal.returns
returns c =
    let list = c.loop-number.out.items in
    subst (λ (numbers : List ℕ). VarintList list 0 numbers (length list)) (take_all c.loop-number.number-index c.args.numbers.now c.loop-number-test.false) c.loop-number.invariant

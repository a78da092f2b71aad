use Rattle.std.proofs.Common.{◌≡◌, ◌-◌, ◌<◌, length, get_or, subst, arith}
use Rattle.std.proofs.lemmas.Bool.{not-true}
use Rattle.mvt_wire.proofs.FieldNumbers.ShortNumbers.{AreSmallBefore-short}
use Rattle.mvt_wire.proofs.numbers.packed.are_short.Goals as goal

pub returns-then-last-lt128 : goal.returns-then-last-lt128
returns-then-last-lt128 c no_run =
    let last : c.in-Some.field-0.now ≡ get_or c.args.part.now (length c.args.part.now - 1) 0 = c.in-Some.ensures.item.4 (omega arith) 0 in
    AreSmallBefore-short c.args.part.now (c.has_run.ensures (not-true _ no_run)) (subst (λ byte. byte < 128) last c.if-last-lt128.true)

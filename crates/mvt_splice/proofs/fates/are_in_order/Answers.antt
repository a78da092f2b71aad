use Rattle.std.proofs.Common.{refl, subst}
use Rattle.std.proofs.lemmas.List.{take_all}
use Rattle.mvt_splice.specs.Splice.{AreChangesInOrder}
use Rattle.mvt_splice.proofs.Splicing.OrderedChanges.{AreChangesInOrder-one, AreChangesInOrder-push}
use Rattle.mvt_splice.proofs.fates.are_in_order.Goals as goal

pub seen-init : goal.seen-init
seen-init c = AreChangesInOrder-one c.args.changes.now

pub seen-preserved : goal.seen-preserved
seen-preserved c =
    AreChangesInOrder-push c.args.changes.now c.seen.i c.index-changes-i-in-seen.result c.index-changes-i.result c.seen.auto.i c.seen-test.true c.index-changes-i-in-seen.is c.index-changes-i.is
    c.seen.invariant (c.is_before.ensures.0 c.if-not-is_before.false)

pub returns : goal.returns
returns c = (λ yes. subst AreChangesInOrder (take_all c.seen.i c.args.changes.now c.seen-test.false) c.seen.invariant, λ in_order. refl)

use Rattle.std.proofs.Common.{sym}
use Rattle.mvt_splice.proofs.Splicing.OrderedChanges.{IsAfter, fate_before_first, after_in_layer, after_layer}
use Rattle.mvt_splice.proofs.fates.change_of.Goals as goal
use Rattle.mvt_splice.proofs.fates.change_of.Goals.{else-change-layer-via-then-change-layer+else-change-feature, else-change-layer-via-else-change-layer}

pub returns-else-change-layer-clause-none : goal.returns-else-change-layer-clause-none
returns-else-change-layer-clause-none c =
    let change = c.in_ok-change.change.now in
    let first = c.in_ok-change.ensures.value in
    let not = c.requires.begin change (sym first) in
    let after : IsAfter change c.args.layer c.args.feature = elim c.else-change-layer.branch [
      | else-change-layer-via-then-change-layer+else-change-feature w ↦ after_in_layer change c.args.layer c.args.feature not w.if-change-layer.true w.if-change-feature.false
      | else-change-layer-via-else-change-layer w ↦ after_layer change c.args.layer c.args.feature c.args.feature not w.if-change-layer.false
    ] in
    fate_before_first c.args.changes.now change first c.args.layer c.args.feature c.requires.in_order after

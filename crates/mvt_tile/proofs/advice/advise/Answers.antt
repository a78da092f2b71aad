use Rattle.std.proofs.Common.{◌+◌, sym, map, subst, take}
use Rattle.mvt_tile.specs.Advice.{AreLayersAdvice}
use Rattle.mvt_tile.specs.View.{layer_of}
use Rattle.mvt_tile.proofs.RuleFaults.Advised.{next_layer}
use Rattle.mvt_tile.proofs.advice.advise.Goals as goal

pub loop-number-preserved : goal.loop-number-preserved
loop-number-preserved c =
    let added = c.in_ok-advise_layer.ensures in
    let layers = c.args.tile.now.layers.items in
    let place = c.loop-number.number in
    let next = next_layer layer_of layers c.deref-layer-items.result.now place c.layer-item.result c.loop-number.advice.items added.0
    c.deref-layer-items.ensures.value c.loop-number-test.true c.layer-item.is c.loop-number.invariant added.1 in
    subst (AreLayersAdvice 0 (map layer_of (take (place + 1) layers))) (sym added.2) next

use Rattle.serde_json.specs.Data.{string}
use Rattle.mvt_tile.specs.View.{feature_of, layer_of, value_of}
use Rattle.mvt_engine.specs.Dump.{feature_data, value_data}
use Rattle.mvt_engine.proofs.DumpTexts.{layer_pushed, recorded_list}
use Rattle.mvt_engine.proofs.dump.text.LayerPart.push_to.Goals as goal

pub returns : goal.returns
returns c =
    let layer = c.args.self.now in
    layer_pushed c.write.result (layer_of layer)
    _ _ _ _ _ _ _ _ _ _ _ _ _
    (recorded_list feature_data feature_of c.deref.result.now layer.features.items c.deref.ensures.value)
    (recorded_list string (λ key. key.now) c.deref-2.result.now layer.keys.items c.deref-2.ensures.value)
    (recorded_list value_data value_of c.deref-3.result.now layer.values.items c.deref-3.ensures.value)
    c.in_ok-push_extent.ensures c.in_ok-push_list.ensures c.in_ok-push_str.ensures.bytes c.in_ok-push_list-2.ensures c.in_ok-push_str-2.ensures.bytes c.in_ok-push_string.ensures
    c.in_ok-push_str-3.ensures.bytes c.in_ok-push_list-3.ensures c.write.ensures.bytes

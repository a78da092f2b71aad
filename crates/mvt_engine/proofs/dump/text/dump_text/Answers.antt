use Rattle.mvt_tile.specs.View.{layer_of, tile_of}
use Rattle.mvt_engine.specs.Dump.{layer_data}
use Rattle.mvt_engine.proofs.DumpTexts.{tile_written, recorded_list}
use Rattle.mvt_engine.proofs.dump.text.dump_text.Goals as goal

pub returns : goal.returns
returns c =
    tile_written (tile_of c.args.tile.now) _ _ _ _
    (recorded_list layer_data layer_of c.deref.result.now c.args.tile.now.layers.items c.deref.ensures.value)
    c.in_ok-text.ensures.ok c.in_ok-push_list.ensures c.in_ok-push_str.ensures.bytes

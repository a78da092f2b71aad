use Rattle.mvt_confirm.proofs.Wire.WholeTiles.{is_tile, layers_hold}
use Rattle.mvt_confirm.proofs.tile.is_tile.Goals as goal

pub returns-then-keeps_schema : goal.returns-then-keeps_schema
returns-then-keeps_schema c =
    let layers = c.layers_keep.ensures in (
      λ keep. is_tile c.args.bytes.now (c.keeps_schema.ensures.0 c.if-keeps_schema.true) (layers.0 keep),
      λ tile. layers.1 (layers_hold c.args.bytes.now tile.0 tile.1),
    )

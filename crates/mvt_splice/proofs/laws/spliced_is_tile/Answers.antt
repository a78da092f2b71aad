use Rattle.mvt_splice.proofs.SplicedTiles.SplicedWholes.{spliced_is_tile}
use Rattle.mvt_splice.proofs.laws.spliced_is_tile.Goals as goal

pub returns : goal.returns
returns c = spliced_is_tile

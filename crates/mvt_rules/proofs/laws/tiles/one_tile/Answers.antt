use Rattle.mvt_rules.proofs.Tiles.Tiles.{one_tile}
use Rattle.mvt_rules.proofs.laws.tiles.one_tile.Goals as goal

pub returns : goal.returns
returns c = one_tile

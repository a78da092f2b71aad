use Rattle.mvt_rules.proofs.Tiles.SmallNumbers.{geometry_small}
use Rattle.mvt_rules.proofs.laws.tiles.geometry_has_32_bits.Goals as goal

pub returns : goal.returns
returns c = geometry_small

use Rattle.mvt_rules.proofs.Tiles.Tiles.{tile_or_fault, tile_faultless}
use Rattle.mvt_rules.proofs.laws.tiles.tile_or_wire_fault.Goals as goal

pub returns-clause-some : goal.returns-clause-some
returns-clause-some c = tile_or_fault

pub returns-clause-not_both : goal.returns-clause-not_both
returns-clause-not_both c = tile_faultless

use Rattle.mvt_rules.proofs.Tiles.SmallNumbers.{tags_end, geometry_end}
use Rattle.mvt_rules.proofs.laws.tiles.feature_numbers_end.Goals as goal

pub returns-clause-tags : goal.returns-clause-tags
returns-clause-tags c = tags_end

pub returns-clause-geometry : goal.returns-clause-geometry
returns-clause-geometry c = geometry_end

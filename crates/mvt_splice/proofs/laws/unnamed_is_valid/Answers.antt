use Rattle.mvt_splice.proofs.SplicedTiles.ValidFeatures.{unnamed_is_valid}
use Rattle.mvt_splice.proofs.laws.unnamed_is_valid.Goals as goal

pub returns : goal.returns
returns c = unnamed_is_valid

use Rattle.mvt_splice.proofs.SplicedTiles.ValidSplices.{spliced_is_valid}
use Rattle.mvt_splice.proofs.laws.spliced_is_valid.Goals as goal

pub returns : goal.returns
returns c = spliced_is_valid

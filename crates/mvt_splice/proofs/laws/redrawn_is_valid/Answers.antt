use Rattle.mvt_splice.proofs.SplicedTiles.ValidFeatures.{rings_are_valid_after}
use Rattle.mvt_splice.proofs.laws.redrawn_is_valid.Goals as goal

pub returns : goal.returns
returns c = rings_are_valid_after

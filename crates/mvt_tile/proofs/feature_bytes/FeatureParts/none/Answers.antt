use Rattle.std.proofs.Common.{refl}
use Rattle.mvt_tile.proofs.feature_bytes.FeatureParts.none.Goals as goal

pub returns : goal.returns
returns c = λ message. record { id = refl; kind = refl; tags = c.none.ensures message 2; geometry = c.none-2.ensures message 4 }

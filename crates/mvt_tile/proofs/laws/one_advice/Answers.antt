use Rattle.mvt_tile.proofs.RuleFaults.OneAdvice.{one_advice}
use Rattle.mvt_tile.proofs.laws.one_advice.Goals as goal

pub returns : goal.returns
returns c = λ tile advice other is also. one_advice tile.layers advice other is also

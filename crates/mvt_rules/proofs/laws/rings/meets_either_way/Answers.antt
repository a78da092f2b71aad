use Rattle.mvt_rules.proofs.Rings.EdgePairs.{meets_either_way}
use Rattle.mvt_rules.proofs.laws.rings.meets_either_way.Goals as goal

pub returns : goal.returns
returns c = meets_either_way

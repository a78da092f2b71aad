use Rattle.mvt_rules.proofs.Rings.EdgePairs.{one_shared_vertex}
use Rattle.mvt_rules.proofs.laws.rings.one_shared_vertex.Goals as goal

pub returns : goal.returns
returns c = one_shared_vertex

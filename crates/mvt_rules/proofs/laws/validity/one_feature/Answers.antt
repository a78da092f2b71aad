use Rattle.mvt_rules.proofs.Validity.TileFeatures.{one_feature, one_list_of_rings}
use Rattle.mvt_rules.proofs.laws.validity.one_feature.Goals as goal

pub returns-clause-feature : goal.returns-clause-feature
returns-clause-feature c = one_feature

pub returns-clause-rings : goal.returns-clause-rings
returns-clause-rings c = one_list_of_rings

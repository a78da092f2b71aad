use Rattle.mvt_splice.proofs.SplicedTiles.FeaturesLeft.{is_feature, was_feature}
use Rattle.mvt_splice.proofs.laws.features_left.Goals as goal

pub returns-clause-there : goal.returns-clause-there
returns-clause-there c = is_feature

pub returns-clause-from : goal.returns-clause-from
returns-clause-from c fates tile layer ordinal left_layer left there =
    let was = was_feature fates tile layer ordinal left_layer left there in
    (was.its_layer, was.feature, was.feature_record, was.there, was.left_layer, was.left)

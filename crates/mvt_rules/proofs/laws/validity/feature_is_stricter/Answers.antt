use Rattle.mvt_rules.proofs.Validity.StricterProfile.{shown_in_feature, valid_by_itself}
use Rattle.mvt_rules.proofs.laws.validity.feature_is_stricter.Goals as goal

pub returns-clause-shown : goal.returns-clause-shown
returns-clause-shown c = shown_in_feature

pub returns-clause-valid : goal.returns-clause-valid
returns-clause-valid c = valid_by_itself

use Rattle.mvt_rules.proofs.Validity.TrueFaults.{shown_is_invalid}
use Rattle.mvt_rules.proofs.laws.validity.shown_is_invalid.Goals as goal

pub returns : goal.returns
returns c = shown_is_invalid

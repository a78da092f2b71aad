use Rattle.mvt_rules.proofs.Validity.ValidWithoutFaults.{unshown_is_valid}
use Rattle.mvt_rules.proofs.laws.validity.unshown_is_valid.Goals as goal

pub returns : goal.returns
returns c = unshown_is_valid

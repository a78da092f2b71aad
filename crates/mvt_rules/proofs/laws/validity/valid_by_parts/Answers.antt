use Rattle.mvt_rules.proofs.Validity.ValidParts.{valid_by_parts}
use Rattle.mvt_rules.proofs.laws.validity.valid_by_parts.Goals as goal

pub returns : goal.returns
returns c = valid_by_parts

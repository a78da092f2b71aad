use Rattle.mvt_rules.proofs.Validity.ShownParts.{shown_by_parts}
use Rattle.mvt_rules.proofs.laws.validity.shown_by_parts.Goals as goal

pub returns : goal.returns
returns c = shown_by_parts

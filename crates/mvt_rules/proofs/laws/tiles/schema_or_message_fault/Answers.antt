use Rattle.mvt_rules.proofs.Tiles.Judgements.{message_judged, message_or_fault}
use Rattle.mvt_rules.proofs.laws.tiles.schema_or_message_fault.Goals as goal

pub returns-clause-some : goal.returns-clause-some
returns-clause-some c = message_judged

pub returns-clause-not_both : goal.returns-clause-not_both
returns-clause-not_both c = message_or_fault

use Rattle.mvt_wire.proofs.Encoding.Messages.{whole_or_defect, message_or_defect, one_defect}
use Rattle.mvt_wire.proofs.laws.message_or_defect.Goals as goal

pub returns-clause-some : goal.returns-clause-some
returns-clause-some c = message_or_defect

pub returns-clause-not_both : goal.returns-clause-not_both
returns-clause-not_both c = whole_or_defect

pub returns-clause-one_defect : goal.returns-clause-one_defect
returns-clause-one_defect c = one_defect

use Rattle.mvt_wire.proofs.Encoding.Messages.{longest_whole, longest_before_defect}
use Rattle.mvt_wire.proofs.laws.longest_field_list.Goals as goal

pub returns-clause-whole : goal.returns-clause-whole
returns-clause-whole c = longest_whole

pub returns-clause-before_defect : goal.returns-clause-before_defect
returns-clause-before_defect c = longest_before_defect

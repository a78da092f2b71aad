use Rattle.mvt_wire.proofs.Encoding.Defects.{varint_begins}
use Rattle.mvt_wire.proofs.Encoding.Varints.{one_end, one_value, varint_or_defect, one_defect_of_varint}
use Rattle.mvt_wire.proofs.laws.varint_or_defect.Goals as goal

pub returns-clause-some : goal.returns-clause-some
returns-clause-some c = varint_begins

pub returns-clause-one_end : goal.returns-clause-one_end
returns-clause-one_end c = one_end

pub returns-clause-one_value : goal.returns-clause-one_value
returns-clause-one_value c = one_value

pub returns-clause-not_both : goal.returns-clause-not_both
returns-clause-not_both c = varint_or_defect

pub returns-clause-one_defect : goal.returns-clause-one_defect
returns-clause-one_defect c = one_defect_of_varint

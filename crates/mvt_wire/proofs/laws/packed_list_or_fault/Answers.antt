use Rattle.mvt_wire.proofs.Encoding.PackedLists.{numbers_or_fault, packed_or_fault}
use Rattle.mvt_wire.proofs.laws.packed_list_or_fault.Goals as goal

pub returns-clause-some : goal.returns-clause-some
returns-clause-some c = numbers_or_fault

pub returns-clause-not_both : goal.returns-clause-not_both
returns-clause-not_both c = packed_or_fault

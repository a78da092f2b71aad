use Rattle.mvt_wire.proofs.FieldNumbers.NumberLaws.{numbers_end, one_numbers_end}
use Rattle.mvt_wire.proofs.laws.one_numbers_end.Goals as goal

pub returns-clause-some : goal.returns-clause-some
returns-clause-some c = numbers_end

pub returns-clause-only : goal.returns-clause-only
returns-clause-only c = one_numbers_end

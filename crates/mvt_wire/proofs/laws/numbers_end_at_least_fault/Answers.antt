use Rattle.std.proofs.Common.{None}
use Rattle.mvt_wire.proofs.FieldNumbers.NumberStops.{ends_at_fault, ends_at_least, ends_at_only, ends_before}
use Rattle.mvt_wire.proofs.laws.numbers_end_at_least_fault.Goals as goal

pub returns-clause-fault : goal.returns-clause-fault
returns-clause-fault c = ends_at_fault

pub returns-clause-least : goal.returns-clause-least
returns-clause-least c = ends_at_least

pub returns-clause-only : goal.returns-clause-only
returns-clause-only c = ends_at_only

pub returns-clause-none : goal.returns-clause-none
returns-clause-none c = λ bytes from field_number numbers cause. ends_before bytes from field_number numbers None cause

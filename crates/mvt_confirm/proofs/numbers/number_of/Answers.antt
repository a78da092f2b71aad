use Rattle.std.proofs.Common.{None}
use Rattle.mvt_confirm.proofs.Wire.SingularNumbers.{first_taken}
use Rattle.mvt_confirm.proofs.numbers.number_of.Goals as goal

pub returns : goal.returns
returns c = λ numbers ends.
    first_taken c.new-numbers.result c.next_number.new.numbers c.next_number.result numbers c.next_number.ensures.there ((c.new-numbers.ensures numbers None).1 ends)

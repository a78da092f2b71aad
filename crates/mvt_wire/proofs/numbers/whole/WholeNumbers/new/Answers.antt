use Rattle.std.proofs.Common.{arith}
use Rattle.mvt_wire.proofs.numbers.whole.WholeNumbers.new.Goals as goal

pub invariant_of-result : goal.invariant_of-result
invariant_of-result c =
    let lies = c.requires in
    record { forward = lies.0; within = omega (arith, lies.1, lies.2); faultless = lies.3; no_more = lies.4 }

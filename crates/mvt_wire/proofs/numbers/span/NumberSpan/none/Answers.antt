use Rattle.std.proofs.Common.{arith}
use Rattle.mvt_wire.proofs.numbers.span.NumberSpan.none.Goals as goal

pub returns : goal.returns
returns c = λ message field_number. record { all = λ numbers ending left. left; following = λ numbers ending end. end; forward = omega arith; ended = omega arith; within = omega arith }

use Rattle.std.proofs.Common.{◌≡◌, arith}
use Rattle.mvt_confirm.proofs.Wire.MessageFaults.{missing_there}
use Rattle.mvt_confirm.proofs.wire_fault.end.is_fault_of.Goals as goal

pub returns-then-counts-eq0 : goal.returns-then-counts-eq0
returns-then-counts-eq0 c = λ entries counted known.
    let none : c.args.counts.of_number ≡ 0 = omega arith in
    missing_there c.args.message entries c.args.cause c.args.counts.of_number c.is_required.result c.in-Missing.is counted none c.is_required.ensures

use Rattle.std.proofs.Common.{◌≡◌, arith}
use Rattle.mvt_confirm.proofs.Wire.MessageFaults.{at_end}
use Rattle.mvt_confirm.specs.Calls.MessageBytes.{front}
use Rattle.mvt_confirm.proofs.wire_fault.end.has_end_fault.Goals as goal

pub returns-then-cause-place : goal.returns-then-cause-place
returns-then-cause-place c =
    let counts = c.in-Some.ensures.counts in
    let here : c.args.cause.at ≡ c.args.place.now.span.to = omega arith in
    at_end (front c.args.place.now) c.args.place.now.span.from c.args.place.now.span.to c.args.message counts.0 c.args.cause c.is_fault_of.result
    counts.1 here (c.is_fault_of.ensures counts.0 counts.2 counts.3)

use Rattle.std.proofs.Common.{string_bytes}
use Rattle.mvt_gate.proofs.AdviceTexts.{no_advice}
use Rattle.mvt_gate.proofs.advice.add_advice.Goals as goal

pub returns-in-Err-Wire : goal.returns-in-Err-Wire
returns-in-Err-Wire c =
    no_advice c.args.input.now (string_bytes c.args.line) c.in-Err-Wire.field-0 c.in-Err-Wire._fault c.in-Err-Wire.field-0-is c.in-Err-Wire.ensures.fault

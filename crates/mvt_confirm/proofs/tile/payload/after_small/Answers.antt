use Rattle.std.proofs.Common.{arith}
use Rattle.std.proofs.lemmas.Result.{IfOk-at_ok}
use Rattle.mvt_wire.proofs.Encoding.Varints.{one_value}
use Rattle.mvt_confirm.proofs.Wire.PackedNumbers.{small_begins, small_passed}
use Rattle.mvt_confirm.proofs.tile.payload.after_small.Goals as goal

pub returns-in-Ok-clause-same : goal.returns-in-Ok-clause-same
returns-in-Ok-clause-same c =
    small_passed c.args.part.now c.args.at c.in-Ok.next c.in-Ok.number c.requires (IfOk-at_ok _ c.in-Ok.is c.read_varint.ensures.found) c.if-number.true

pub returns-in_default-clause-none : goal.returns-in_default-clause-none
returns-in_default-clause-none c = λ held.
    let begins = small_begins c.args.part.now c.args.at c.requires held in
    let same = one_value c.args.part.now c.args.at c.in-Ok.next begins.1 c.in-Ok.number begins.0 (IfOk-at_ok _ c.in-Ok.is c.read_varint.ensures.found) begins.2 in
    omega (arith, same, begins.3, c.if-number.false)

pub returns-in_default-2-clause-none : goal.returns-in_default-2-clause-none
returns-in_default-2-clause-none c = λ held.
    let begins = small_begins c.args.part.now c.args.at c.requires held in
    let read = c.read_varint.ensures.only begins.0 begins.1 begins.2 in
    let failed = c.in_default.is in
    cc

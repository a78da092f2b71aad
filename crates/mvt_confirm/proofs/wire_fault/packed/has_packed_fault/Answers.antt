use Rattle.std.proofs.Common.{◌≡◌, ◌≢◌, ◌-◌, ◌<◌, ◌≤◌, length, eqb, false, refl, arith}
use Rattle.std.proofs.lemmas.Bool.{ne_eqb}
use Rattle.mvt_confirm.proofs.Wire.PackedWalk.{IsPassing-more, IsPassing-defect, IsPassing-past, nothing_ahead, decided_there}
use Rattle.mvt_confirm.proofs.wire_fault.packed.has_packed_fault.Goals as goal
use Rattle.mvt_confirm.proofs.wire_fault.packed.has_packed_fault.Goals.{then-walk-test+else-at-part, else-walk-test}

pub walk-preserved : goal.walk-preserved
walk-preserved c =
    let less : c.walk.at < c.args.cause.at - c.args.from = omega arith in
    IsPassing-more c.args.part.now (c.args.cause.at - c.args.from) c.args.cause.code c.walk.at c.in-Ok.next c.in-Ok._number c.walk.invariant less c.in-Ok.ensures.found

pub returns-in-Err : goal.returns-in-Err
returns-in-Err c =
    let less : c.walk.at < c.args.cause.at - c.args.from = omega arith in
    nothing_ahead c.args.from c.args.part.now c.args.number c.args.cause
    (IsPassing-defect c.args.part.now (c.args.cause.at - c.args.from) c.args.cause.code c.in-Err._code c.walk.at c.walk.invariant less c.in-Err.ensures.refused) false refl

pub returns-then-at-place : goal.returns-then-at-place
returns-then-at-place c =
    let here : c.walk.at ≡ c.args.cause.at - c.args.from = omega arith in
    let number : c.args.cause.field ≡ c.args.number = omega arith in
    let following : c.args.from ≤ c.args.cause.at = omega arith in
    decided_there c.args.from c.args.part.now c.args.number c.args.cause c.walk.at c.is_bad_at.result c.walk.invariant here number following c.is_bad_at.ensures

pub returns-else-at-place : goal.returns-else-at-place
returns-else-at-place c =
    let place = c.args.cause.at - c.args.from in
    let other : c.walk.at ≢ place = omega arith in
    let past : c.walk.at < place → length c.args.part.now ≤ c.walk.at = elim c.walk-test.branch [
      | then-walk-test+else-at-part w ↦ λ less. omega arith
      | else-walk-test w ↦ λ less. absurd (omega arith)
    ] in
    nothing_ahead c.args.from c.args.part.now c.args.number c.args.cause
    (IsPassing-past c.args.part.now place c.args.cause.code c.walk.at c.walk.invariant other past) (eqb c.walk.at place) (ne_eqb c.walk.at place other)

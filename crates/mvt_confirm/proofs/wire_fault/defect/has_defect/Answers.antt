use Rattle.std.proofs.Common.{[], ◌∷◌, ◌++◌}
use Rattle.std.proofs.lemmas.Result.{IfErr-at_err, IfOk-at_ok}
use Rattle.mvt_wire.specs.Field.{entry_of}
use Rattle.mvt_confirm.proofs.Wire.Walking.{IsWalking-its_defect, IsWalking-no_defect}
use Rattle.mvt_confirm.proofs.wire_fault.defect.has_defect.Goals as goal
use Rattle.mvt_confirm.specs.Calls.MessageBytes.{front}
use Rattle.mvt_wire.proofs.Walking.{IsWalking-more}

pub returns-in-Err : goal.returns-in-Err
returns-in-Err c =
    IsWalking-its_defect (front c.args.place.now) c.args.place.now.span.from c.walk.fields c.next_field.new.self c.walk.invariant.0 c.in-Err.defect c.args.cause c.is_same.result
    c.walk.invariant.1 (IfErr-at_err _ c.in-Err.is c.in-Some.ensures.defect) c.is_same.ensures

pub walk-preserved : goal.walk-preserved
walk-preserved c =
    let so_far = c.walk.invariant in
    let entry = entry_of c.in_default-item.field-0 in (
      so_far.0 ++ entry ∷ [],
      IsWalking-more (front c.args.place.now) c.args.place.now.span.from c.walk.fields c.next_field.new.self so_far.0 entry so_far.1
          (IfOk-at_ok _ c.in_default-item.is c.in-Some.ensures.field),
    )

pub returns : goal.returns
returns c =
    IsWalking-no_defect (front c.args.place.now) c.args.place.now.span.from c.walk.fields c.next_field.new.self c.walk.invariant.0 c.args.cause c.walk.invariant.1 c.in_default.ensures.over

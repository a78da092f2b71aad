use Rattle.std.proofs.Common.{◌∷◌, [], ◌++◌, inl}
use Rattle.std.proofs.lemmas.Result.{IfErr-at_err, IfOk-at_ok}
use Rattle.mvt_wire.specs.Field.{entry_of}
use Rattle.mvt_wire.proofs.fields.defect_or.Goals as goal
use Rattle.mvt_wire.proofs.Walking.{IsWalking-more, IsWalking-defect}

pub returns-in-Err : goal.returns-in-Err
returns-in-Err c =
    let so_far = c.walk.invariant in
    inl (IsWalking-defect c.args.fields.bytes c.args.fields.at c.walk.fields c.next_field.new.self so_far.0 c.in-Err.defect so_far.1 (IfErr-at_err _ c.in-Err.is c.in-Some.ensures.defect))

pub walk-preserved : goal.walk-preserved
walk-preserved c =
    let so_far = c.walk.invariant in
    let entry = entry_of c.in_default-item.field-0 in
    (so_far.0 ++ entry ∷ [], IsWalking-more c.args.fields.bytes c.args.fields.at c.walk.fields c.next_field.new.self so_far.0 entry so_far.1 (IfOk-at_ok _ c.in_default-item.is c.in-Some.ensures.field))

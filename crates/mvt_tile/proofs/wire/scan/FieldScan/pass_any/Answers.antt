use Rattle.std.proofs.Common.{[], ◌∷◌, ◌++◌}
use Rattle.std.proofs.lemmas.Result.{IfErr-at_err, IfOk-at_ok}
use Rattle.mvt_wire.specs.Field.{entry_of}
use Rattle.mvt_wire.proofs.Walking.{IsWalking-defect, IsWalking-more, IsWalking-at, not_over}
use Rattle.mvt_tile.proofs.WireFaults.Walking.{first_or_defect, defect_alone}
use Rattle.mvt_tile.proofs.wire.scan.FieldScan.pass_any.Goals as goal

pub unreachable-requires : goal.unreachable-requires
unreachable-requires c = not_over c.args.bytes.now c.args.at c.new-fields.result c.next_field.new.self c.new-fields.ensures c.requires c.in-None.ensures.over

pub returns-in-Some-Err-clause-fault : goal.returns-in-Some-Err-clause-fault
returns-in-Some-Err-clause-fault c from entries list passes =
    defect_alone c.args.message c.args.bytes.now from c.in-Some-Err.cause
    (IsWalking-defect c.args.bytes.now from c.new-fields.result c.next_field.new.self entries c.in-Some-Err.cause
    (IsWalking-at c.args.bytes.now from c.args.at c.new-fields.result entries c.new-fields.ensures list) (IfErr-at_err _ c.in-Some-Err.field-0-is c.in-Some-Err.ensures.defect))

pub returns-in-Some-clause-fault : goal.returns-in-Some-clause-fault
returns-in-Some-clause-fault c from entries list passes =
    let given = IfOk-at_ok _ c.in-Some-Ok.field-0-is c.in-Some-Ok.ensures.field in
    let walk = c.next_field.new.self in
    let entry = entry_of c.in-Some-Ok.field in
    first_or_defect c.args.message c.args.bytes.now from walk (entries ++ entry ∷ []) c.in-Some.cause c.defect_or.result
    (IsWalking-more c.args.bytes.now from c.new-fields.result walk entries entry (IsWalking-at c.args.bytes.now from c.args.at c.new-fields.result entries c.new-fields.ensures list) given)
    (c.in-Some.ensures.fault c.new-fields.result.bytes entries walk.at given.encoded passes) c.defect_or.ensures

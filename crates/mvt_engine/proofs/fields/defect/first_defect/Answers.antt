use Rattle.std.proofs.Common.{◌++◌, ◌∷◌, []}
use Rattle.std.proofs.lemmas.Result.{IfErr-at_err, IfOk-at_ok}
use Rattle.mvt_wire.specs.Field.{entry_of}
use Rattle.mvt_engine.proofs.FieldsLineWalk.{Passing-defect, Passing-more}
use Rattle.mvt_engine.proofs.fields.defect.first_defect.Goals as goal

pub walk-preserved : goal.walk-preserved
walk-preserved c =
    let so_far = c.walk.invariant in
    let entry = entry_of c.in-Ok._field in (
      so_far.0 ++ entry ∷ [],
      Passing-more c.args.input.now c.walk.fields c.next_field.new.self so_far.0 entry so_far.1
          (IfOk-at_ok _ c.in-Ok.is c.in-Some.ensures.field),
    )

pub returns-in-Err-clause-defect : goal.returns-in-Err-clause-defect
returns-in-Err-clause-defect c =
    Passing-defect c.args.input.now c.walk.fields c.next_field.new.self c.walk.invariant.0 c.in-Err.cause c.walk.invariant.1
    (IfErr-at_err _ c.in-Err.is c.in-Some.ensures.defect)

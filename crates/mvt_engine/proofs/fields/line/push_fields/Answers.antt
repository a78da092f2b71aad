use Rattle.std.proofs.Common.{string_bytes}
use Rattle.std.proofs.lemmas.Result.{IfErr-at_err, IfOk-at_ok}
use Rattle.mvt_wire.specs.Field.{entry_of}
use Rattle.mvt_engine.proofs.FieldsLineWalk.{Listing-more, Listing-whole}
use Rattle.mvt_engine.proofs.fields.line.push_fields.Goals as goal

pub unreachable-requires : goal.unreachable-requires
unreachable-requires c =
    Listing-whole c.args.input.now c.walk.fields c.next_field.new.self (string_bytes c.walk.line) c.walk.is_first c.in-Err._cause
    c.walk.invariant c.requires.whole (IfErr-at_err _ c.in-Err.is c.in-Some.ensures.defect)

pub walk-preserved : goal.walk-preserved
walk-preserved c =
    Listing-more c.args.input.now c.walk.fields c.next_field.new.self (string_bytes c.walk.line) (string_bytes c.push_field.new.line)
    c.walk.is_first (entry_of c.in-Ok.field)
    c.walk.invariant (IfOk-at_ok _ c.in-Ok.is c.in-Some.ensures.field) c.in_ok-push_field-in-Ok.ensures

use Rattle.std.proofs.Common.{false, refl, sym, ◌∙◌}
use Rattle.std.proofs.lemmas.Result.{IfErr-at_err, IfOk-at_ok}
use Rattle.mvt_wire.specs.Field.{entry_of}
use Rattle.mvt_confirm.proofs.Wire.FieldFaults.{IsLooking-other, IsLooking-still, IsLooking-asked, IsLooking-defect, IsLooking-over}
use Rattle.mvt_confirm.specs.Calls.MessageBytes.{front}
use Rattle.mvt_confirm.proofs.wire_fault.field.has_field_fault.Goals as goal

pub returns-in_default-item : goal.returns-in_default-item
returns-in_default-item c =
    IsLooking-defect (front c.args.place.now) c.args.place.now.span.from c.args.message c.args.cause c.walk.fields c.next_field.new.self c.walk.occurred c.walk.found false c.in_default-item.field-0
    c.walk.invariant (IfErr-at_err _ c.in_default-item.is c.in-Some-next_field.ensures.defect) refl

pub walk-preserved-then-found : goal.walk-preserved-then-found
walk-preserved-then-found c =
    IsLooking-still (front c.args.place.now) c.args.place.now.span.from c.args.message c.args.cause c.walk.fields c.next_field.new.self c.walk.occurred c.walk.found (entry_of c.in-Ok.field)
    c.walk.invariant (IfOk-at_ok _ c.in-Ok.is c.in-Some-next_field.ensures.field) c.if-field-cause.true c.in-Some.rule (sym c.rule.ensures ∙ c.in-Some.is) c.if-found.true

pub walk-preserved-else-found : goal.walk-preserved-else-found
walk-preserved-else-found c =
    IsLooking-asked (front c.args.place.now) c.args.place.now.span.from c.args.message c.args.cause c.walk.fields c.next_field.new.self c.walk.occurred c.walk.found (entry_of c.in-Ok.field)
    c.walk.invariant (IfOk-at_ok _ c.in-Ok.is c.in-Some-next_field.ensures.field) c.if-field-cause.true c.in-Some.rule (sym c.rule.ensures ∙ c.in-Some.is)
    c.is_fault_of-found.result c.if-found.false c.is_fault_of-found.ensures

pub walk-preserved : goal.walk-preserved
walk-preserved c =
    IsLooking-other (front c.args.place.now) c.args.place.now.span.from c.args.message c.args.cause c.walk.fields c.next_field.new.self c.walk.occurred c.walk.found (entry_of c.in-Ok.field)
    c.walk.invariant (IfOk-at_ok _ c.in-Ok.is c.in-Some-next_field.ensures.field) c.if-field-cause.false

pub returns : goal.returns
returns c =
    IsLooking-over (front c.args.place.now) c.args.place.now.span.from c.args.message c.args.cause c.walk.fields c.next_field.new.self c.walk.occurred c.walk.found
    c.walk.invariant c.in_default-next_field.ensures.over

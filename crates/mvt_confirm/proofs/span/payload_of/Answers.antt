use Rattle.std.proofs.Common.{◌+◌, Option, option_map, sym, subst}
use Rattle.std.proofs.lemmas.Result.{IfErr-at_err, IfOk-at_ok}
use Rattle.mvt_wire.specs.Field.{entry_of}
use Rattle.mvt_confirm.specs.Calls.ByteSpan.{as_span}
use Rattle.mvt_confirm.specs.declared.span.ByteSpan.{ByteSpan}
use Rattle.mvt_confirm.proofs.Wire.PayloadSearch.{IsSearching, IsSearching-more, IsSearching-found, IsSearching-other, IsSearching-defect, IsSearching-over}
use Rattle.mvt_confirm.proofs.span.payload_of.Goals as goal
use Rattle.mvt_confirm.proofs.span.payload_of.Goals.{then-passed-ordinal, else-passed-ordinal}

pub returns-in_default-item-clause-none : goal.returns-in_default-item-clause-none
returns-in_default-item-clause-none c = λ span.
    IsSearching-defect c.args.outer.now.bytes.now (as_span c.args.outer.now.span) c.args.field_number c.args.ordinal c.walk.fields c.next_field.new.self c.walk.passed _ c.in_default-item.field-0 span
    c.walk.invariant (IfErr-at_err _ c.in_default-item.is c.in-Some.ensures.defect)

pub walk-preserved-in-Some-payload_in : goal.walk-preserved-in-Some-payload_in
walk-preserved-in-Some-payload_in c =
    let bytes = c.args.outer.now.bytes.now in
    let outer = as_span c.args.outer.now.span in
    let entry = entry_of c.in-Ok.field in
    let span = as_span c.in-Some-payload_in.span in
    let given = IfOk-at_ok _ c.in-Ok.is c.in-Some.ensures.field in
    let own = c.in-Some-payload_in.ensures.number in
    let payload = c.in-Some-payload_in.ensures.payload in
    let Goes = λ (found : Option ByteSpan). IsSearching bytes outer c.args.field_number c.args.ordinal c.next_field.new.self (c.walk.passed + 1) (option_map as_span found) in
    elim c.if-passed-ordinal.branch [
      | then-passed-ordinal w ↦ subst Goes (sym w.found-is)
          (IsSearching-found bytes outer c.args.field_number c.args.ordinal c.walk.fields c.next_field.new.self c.walk.passed _ entry span c.walk.invariant given own payload w.if-passed-ordinal.true)
      | else-passed-ordinal w ↦ subst Goes (sym w.found-is)
          (IsSearching-more bytes outer c.args.field_number c.args.ordinal c.walk.fields c.next_field.new.self c.walk.passed _ entry span c.walk.invariant given own payload w.if-passed-ordinal.false)
    ]

pub walk-preserved : goal.walk-preserved
walk-preserved c =
    IsSearching-other c.args.outer.now.bytes.now (as_span c.args.outer.now.span) c.args.field_number c.args.ordinal c.walk.fields c.next_field.new.self c.walk.passed _ (entry_of c.in-Ok.field)
    c.walk.invariant (IfOk-at_ok _ c.in-Ok.is c.in-Some.ensures.field) c.in_default-payload_in.ensures.none

pub returns-clause-none : goal.returns-clause-none
returns-clause-none c =
    IsSearching-over c.args.outer.now.bytes.now (as_span c.args.outer.now.span) c.args.field_number c.args.ordinal c.walk.fields c.next_field.new.self c.walk.passed c.walk.found
    c.walk.invariant c.in_default.ensures.over

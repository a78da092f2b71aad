use Rattle.std.proofs.Common.{◌↔◌, ◌⊎◌, IsTrue, refl}
use Rattle.mvt_wire.specs.Field.{entry_of}
use Rattle.mvt_confirm.proofs.Wire.FieldForms.{IsOtherType, IsAgain, IsNoText, IsOutOfRange, or_then, or_else, fault_by_form}
use Rattle.mvt_confirm.proofs.wire_fault.field.is_fault_of.Goals as goal
use Rattle.mvt_confirm.proofs.wire_fault.field.is_fault_of.Goals.{Joined-is_no_text, then-is_other_type, else-is_other_type, then-is_again, else-is_again, then-is_no_text, else-is_no_text}

-- the tests before the last one decide their four faults
decided : (c : Joined-is_no_text)
    → let rule = c.args.rule in let occurred = c.args.occurred in let entry = entry_of c.args.field.now in let cause = c.args.cause in
    IsTrue c.if-is_no_text.value ↔ (((IsOtherType rule occurred entry cause ⊎ IsAgain rule occurred entry cause) ⊎ IsNoText rule occurred entry cause) ⊎ IsOutOfRange rule occurred entry cause)
decided c =
    let rule = c.args.rule in
    let occurred = c.args.occurred in
    let entry = entry_of c.args.field.now in
    let cause = c.args.cause in
    let two : IsTrue c.if-is_other_type.value ↔ (IsOtherType rule occurred entry cause ⊎ IsAgain rule occurred entry cause) = elim c.if-is_other_type.branch [
      | then-is_other_type w ↦ or_then c.is_other_type.result _ _ _ c.is_other_type.ensures w.if-is_other_type.true w.value-is
      | else-is_other_type w ↦ or_else c.is_other_type.result w.is_again.result _ _ _ c.is_other_type.ensures w.is_again.ensures w.if-is_other_type.false w.value-is
    ] in
    let three : IsTrue c.if-is_again.value ↔ ((IsOtherType rule occurred entry cause ⊎ IsAgain rule occurred entry cause) ⊎ IsNoText rule occurred entry cause) = elim c.if-is_again.branch [
      | then-is_again w ↦ or_then c.if-is_other_type.value _ _ _ two w.if-is_again.true w.value-is
      | else-is_again w ↦ or_else c.if-is_other_type.value w.is_no_text.result _ _ _ two w.is_no_text.ensures w.if-is_again.false w.value-is
    ] in
    elim c.if-is_no_text.branch [
      | then-is_no_text w ↦ or_then c.if-is_again.value _ _ _ three w.if-is_no_text.true w.value-is
      | else-is_no_text w ↦ or_else c.if-is_again.value w.is_out_of_range.result _ _ _ three w.is_out_of_range.ensures w.if-is_no_text.false w.value-is
    ]

pub returns-then-is_out_of_range : goal.returns-then-is_out_of_range
returns-then-is_out_of_range c =
    fault_by_form c.args.rule c.args.occurred (entry_of c.args.field.now) c.args.cause _
    (or_then c.if-is_no_text.value _ _ _ (decided (goal.at.returns-then-is_out_of_range c).Joined-is_no_text) c.if-is_out_of_range.true refl)

pub returns-else-is_out_of_range : goal.returns-else-is_out_of_range
returns-else-is_out_of_range c =
    fault_by_form c.args.rule c.args.occurred (entry_of c.args.field.now) c.args.cause _
    (or_else c.if-is_no_text.value c.is_in_packed_list.result _ _ _ (decided (goal.at.returns-else-is_out_of_range c).Joined-is_no_text) c.is_in_packed_list.ensures c.if-is_out_of_range.false refl)

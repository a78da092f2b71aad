use Rattle.std.proofs.Common.{◌≡◌, true, false, sym, ◌∙◌}
use Rattle.mvt_confirm.proofs.Wire.MessageFaults.{by_place}
use Rattle.mvt_confirm.proofs.wire_fault.has_message_fault.Goals as goal
use Rattle.mvt_confirm.proofs.wire_fault.has_message_fault.Goals.{then-has_defect, else-has_defect}

pub returns-else-has_field_fault : goal.returns-else-has_field_fault
returns-else-has_field_fault c = elim c.if-has_defect.branch [
  | then-has_defect w ↦ let both : true ≡ false = sym w.if-has_defect.true ∙ sym w.value-is ∙ c.if-has_field_fault.false in absurd (cc)
  | else-has_defect w ↦
      by_place c.args.place.now.bytes.now c.args.place.now.span.from c.args.place.now.span.to c.args.message c.args.cause c.has_defect.result c.has_end_fault.result c.args.place.now.within
      c.has_defect.ensures w.if-has_defect.false w.has_field_fault.result w.has_field_fault.ensures (sym w.value-is ∙ c.if-has_field_fault.false) c.has_end_fault.ensures
]

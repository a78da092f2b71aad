use Rattle.std.proofs.Common.{ap}
use Rattle.std.proofs.lemmas.Result.{err_from_is_err_and}
use Rattle.mvt_wire.specs.Field.{content_of}
use Rattle.mvt_wire.proofs.FieldNumbers.NumberEnds.{ends_at_defect}
use Rattle.mvt_wire.proofs.FieldNumbers.NumberFields.{left_after_other, left_in_single, left_in_list, ends_at_other_type, is_other_type}
use Rattle.mvt_wire.proofs.numbers.field_varints.Goals as goal

pub returns-in_err-field-clause-fault : goal.returns-in_err-field-clause-fault
returns-in_err-field-clause-fault c =
    let p = err_from_is_err_and c.from_residual.result c.from_residual.ensures.1 in
    rw (p.1, p.2) (ends_at_defect _ _ _ _ c.requires c.in_err-field.ensures.defect)

pub returns-then-field-field_number-clause-same : goal.returns-then-field-field_number-clause-same
returns-then-field-field_number-clause-same c =
    rw c.no_varints.ensures (λ numbers ending. left_after_other _ _ _ _ _ numbers ending c.in_ok-field.ensures.here c.in_ok-field.ensures.field c.if-field-field_number.true)

pub returns-in-Varint-clause-same : goal.returns-in-Varint-clause-same
returns-in-Varint-clause-same c = λ numbers ending. left_in_single _ _ _ _ _ _ _ numbers ending c.in_ok-field.ensures.here c.in_ok-field.ensures.field c.if-field-field_number.false (ap content_of c.in-Varint.is)

pub returns-in-Bytes-clause-same : goal.returns-in-Bytes-clause-same
returns-in-Bytes-clause-same c = λ numbers ending. left_in_list _ _ _ _ _ _ _ numbers ending c.in_ok-field.ensures.here c.in_ok-field.ensures.field c.if-field-field_number.false (ap content_of c.in-Bytes.is)

pub returns-in-Fixed64-clause-fault : goal.returns-in-Fixed64-clause-fault
returns-in-Fixed64-clause-fault c = ends_at_other_type _ _ _ _ _ c.in_ok-field.ensures.here c.in_ok-field.ensures.field c.if-field-field_number.false (is_other_type _ c.in-Fixed64.is)

use Rattle.std.proofs.Common.{false, rules, ap}
use Rattle.mvt_wire.specs.Field.{content_of, entry_of}
use Rattle.mvt_confirm.proofs.Wire.FieldForms.{packed_there}
use Rattle.mvt_confirm.proofs.wire_fault.field.is_in_packed_list.Goals as goal

pub returns-in-Bytes : goal.returns-in-Bytes
returns-in-Bytes c =
    packed_there c.args.rule false (entry_of c.args.field.now) c.args.cause c.in-Bytes.from c.in-Bytes.slice.now c.has_packed_fault.result
    (search rules) (ap content_of c.in-Bytes.is) c.has_packed_fault.ensures

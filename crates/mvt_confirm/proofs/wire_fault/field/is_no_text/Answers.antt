use Rattle.std.proofs.Common.{false, rules, ap, not}
use Rattle.mvt_wire.specs.Field.{content_of, entry_of}
use Rattle.mvt_confirm.proofs.Wire.FieldForms.{no_text_there}
use Rattle.mvt_confirm.proofs.wire_fault.field.is_no_text.Goals as goal

pub returns-then-eq-2 : goal.returns-then-eq-2
returns-then-eq-2 c =
    no_text_there c.args.rule false (entry_of c.args.field.now) c.args.cause c.in-Bytes.from c.in-Bytes.slice.now (not c.is_utf8.result)
    (search rules) (ap content_of c.in-Bytes.is) (search rules) (search rules)

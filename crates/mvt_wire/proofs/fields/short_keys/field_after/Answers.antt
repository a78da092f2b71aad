use Rattle.std.proofs.Common.{◌+◌, slice_range, refl, arith}
use Rattle.mvt_wire.specs.Field.{delimited}
use Rattle.mvt_wire.proofs.Encoding.WholeFields.{GivesField-following}
use Rattle.mvt_wire.proofs.fields.short_keys.field_after.Goals as goal

pub returns-else-value-bytes-clause-field : goal.returns-else-value-bytes-clause-field
returns-else-value-bytes-clause-field c =
    let next = c.args.start + c.args.value in (
      GivesField-following c.args.bytes.now c.args.at next c.from-number.result (delimited c.args.start (slice_range c.args.bytes.now c.args.start next)) c.requires.within (omega arith) (omega arith)
          (omega arith) (omega arith) (c.args.value, c.requires.leading, refl, omega arith, refl),
      omega arith,
    )

use Rattle.std.proofs.Common.{◌+◌, arith, rules}
use Rattle.mvt_wire.specs.Field.{IsPayload, eight_bytes, four_bytes}
use Rattle.mvt_wire.proofs.Encoding.WholeFields.{GivesField-following}
use Rattle.mvt_wire.proofs.fields.short_keys.fixed_after.Goals as goal

pub returns-in_ok-get-in-1-clause-field : goal.returns-in_ok-get-in-1-clause-field
returns-in_ok-get-in-1-clause-field c =
    let payload : IsPayload c.args.bytes.now (c.args.at + 1) (c.args.at + 9) (eight_bytes c.in_ok-get-in-1.field-0.now) = search rules in (
      GivesField-following c.args.bytes.now c.args.at (c.args.at + 9) c.from-number.result (eight_bytes c.in_ok-get-in-1.field-0.now) c.requires.within (omega arith) (omega arith)
          (omega arith) (omega arith) payload,
      omega arith,
    )

pub returns-in_ok-get-in-5-clause-field : goal.returns-in_ok-get-in-5-clause-field
returns-in_ok-get-in-5-clause-field c =
    let payload : IsPayload c.args.bytes.now (c.args.at + 1) (c.args.at + 5) (four_bytes c.in_ok-get-in-5.field-0.now) = search rules in (
      GivesField-following c.args.bytes.now c.args.at (c.args.at + 5) c.from-number.result (four_bytes c.in_ok-get-in-5.field-0.now) c.requires.within (omega arith) (omega arith)
          (omega arith) (omega arith) payload,
      omega arith,
    )

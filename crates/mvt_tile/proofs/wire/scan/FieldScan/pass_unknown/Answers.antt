use Rattle.std.proofs.Common.{◌≡◌, ℕ, ◌/◌, List, Option, Some, None, IfSome, refl, ap, sym, ◌∙◌}
use Rattle.mvt_wire.specs.Field.{entry_of}
use Rattle.mvt_wire.specs.Schema.{rule_of}
use Rattle.mvt_wire.specs.Walk.{IsNextField}
use Rattle.mvt_wire.specs.declared.field.Field.{Field}
use Rattle.mvt_wire.specs.declared.schema.Message.{Message}
use Rattle.mvt_tile.specs.Calls.FieldScan.{PassesOrNot}
use Rattle.mvt_tile.specs.declared.wire.scan.FieldScan.{FieldScan}
use Rattle.mvt_tile.proofs.WireFaults.FieldScans.{HasScanned-unknown}
use Rattle.mvt_tile.proofs.wire.scan.FieldScan.pass_unknown.Goals as goal

-- a field of a number that the message doesn't know is passed, and nothing is kept of it
passed : (message : Message) (bytes : List ℕ) (at key field_number : ℕ) (scan : FieldScan) (read : Option (Field × ℕ)) → field_number ≡ key / 8 → rule_of message field_number ≡ None → IfSome read (IsNextField bytes at key)
    → PassesOrNot message bytes at scan scan read
passed message bytes at key field_number scan None is unknown next = refl
passed message bytes at key field_number scan (Some read) is unknown next = record {
  given = next.0;
  passed = λ entries. HasScanned-unknown message scan entries (entry_of read.0) (ap (rule_of message) (next.1 ∙ sym is) ∙ unknown);
}

pub returns-in-None : goal.returns-in-None
returns-in-None c = passed c.args.message c.args.bytes.now c.args.at c.args.key c.from.result c.args.self.now c.field_after.result c.from.ensures (sym c.in-None.ensures) c.field_after.ensures.field

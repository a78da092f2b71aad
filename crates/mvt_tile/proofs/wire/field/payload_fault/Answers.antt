use Rattle.std.proofs.Common.{rules, sym, ap, subst, arith}
use Rattle.mvt_wire.specs.Field.{content_of, entry_of}
use Rattle.mvt_rules.specs.WireFault.{EntryFault}
use Rattle.mvt_tile.specs.Calls.Least.{IsLeastCause}
use Rattle.mvt_tile.proofs.WireFaults.FieldFaults.{out_of_range-first, no_text-first, packed-first}
use Rattle.mvt_tile.proofs.WireFaults.FieldPlaces.{LiesWithin, IsPlaced-field}
use Rattle.mvt_tile.proofs.wire.field.payload_fault.Goals as goal

pub returns-in-Varint : goal.returns-in-Varint
returns-in-Varint c = λ occurred may.
    out_of_range-first c.args.rule occurred (entry_of c.args.field.now) c.in-Varint.value c.in-Varint.at c.requires.own may
    (ap content_of c.in-Varint.is) (sym c.if-is_out_of_range.ensures)

pub returns-in-Bytes : goal.returns-in-Bytes
returns-in-Bytes c = λ occurred may.
    subst (λ cause. IsLeastCause (EntryFault c.args.rule occurred (entry_of c.args.field.now)) cause) (sym c.at_key.ensures)
    (no_text-first c.args.rule occurred (entry_of c.args.field.now) c.in-Bytes.from c.in-Bytes.slice.now c.requires.own may
    (search rules) (ap content_of c.in-Bytes.is) (search rules))

pub returns-in-Bytes-2 : goal.returns-in-Bytes-2
returns-in-Bytes-2 c = λ occurred may.
    packed-first c.args.rule occurred (entry_of c.args.field.now) c.in-Bytes-2.from c.in-Bytes-2.slice.now _ c.requires.own may
    (search rules) (ap content_of c.in-Bytes-2.is) c.packed_fault.ensures.none c.packed_fault.ensures.fault c.packed_fault.ensures.first

pub packed_fault-requires : goal.packed_fault-requires
packed_fault-requires c =
    let there = c.requires.placed in
    let placed = IsPlaced-field there.0 there.1 (entry_of c.args.field.now) there.2 in
    let place = subst (λ body. LiesWithin c.args.field.now.at there.1 (content_of body)) c.in-Bytes-2.is placed.payload in
    omega (arith, place.1, there.3)

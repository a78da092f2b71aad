use Rattle.std.proofs.Common.{◌/◌, refl, arith}
use Rattle.mvt_wire.specs.Field.{content_of}
use Rattle.mvt_wire.proofs.Encoding.WholeFields.{after_key, GivesField-after_key}
use Rattle.mvt_wire.proofs.fields.whole.whole_field.Goals as goal

pub whole_body-next-requires : goal.whole_body-next-requires
whole_body-next-requires c =
    let there = c.requires in
    let key = after_key c.args.bytes.now c.args.at c.whole_varint-key.result.1 c.whole_varint-key.result.0 there.0 there.1 there.2 there.3 c.whole_varint-key.ensures in
    (key.content, key.next, key.type, key.payload)

pub overflow_cast-number : goal.overflow_cast-number
overflow_cast-number c =
    let there = c.requires in
    let key = after_key c.args.bytes.now c.args.at c.whole_varint-key.result.1 c.whole_varint-key.result.0 there.0 there.1 there.2 there.3 c.whole_varint-key.ensures in
    record { fits = omega (arith, key.small) }

pub returns : goal.returns
returns c =
    let there = c.requires in
    let key = after_key c.args.bytes.now c.args.at c.whole_varint-key.result.1 c.whole_varint-key.result.0 there.0 there.1 there.2 there.3 c.whole_varint-key.ensures in
    GivesField-after_key c.args.bytes.now c.args.at c.whole_varint-key.result.1 c.whole_varint-key.result.0 c.whole_body-next.result.1 (c.whole_varint-key.result.0 / 8) (content_of c.whole_body-next.result.0)
    c.whole_varint-key.ensures key.numbered key.small refl c.whole_body-next.ensures.wire_type c.whole_body-next.ensures.payload

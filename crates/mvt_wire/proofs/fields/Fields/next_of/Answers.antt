use Rattle.std.proofs.Common.{◌≡◌, ◌+◌, ◌<◌, ℕ, List, length, get_or, sym, ◌∙◌, subst, arith}
use Rattle.mvt_wire.specs.Field.{Entry, IsField, content_of}
use Rattle.mvt_wire.specs.Varint.{EncodesVarint}
use Rattle.mvt_wire.specs.Walk.{Walk, GivesField}
use Rattle.mvt_wire.proofs.Encoding.WholeFields.{IsAfterKey, stands, after_key, GivesField-after_key, one_byte}
use Rattle.mvt_wire.proofs.fields.Fields.next_of.Goals as goal

-- the key is a varint of its own
key_encoded : (bytes : List ℕ) (at key : ℕ) → at < length bytes → get_or bytes at 0 ≡ key → key < 128 → EncodesVarint bytes at (at + 1) key
key_encoded bytes at key within is short = subst (λ (byte : ℕ). EncodesVarint bytes at (at + 1) byte) is (one_byte bytes at within (omega arith))

-- and what stands after it
after : (bytes : List ℕ) (at key : ℕ) → at < length bytes → get_or bytes at 0 ≡ key → key < 128 → (entry : Entry) × (next : ℕ) × (entry.at ≡ at) × IsField bytes next entry → IsAfterKey bytes at (at + 1) key
after bytes at key within is short there = after_key bytes at (at + 1) key there.0 there.1 there.2 there.3 (key_encoded bytes at key within is short)

pub whole_body-next-requires : goal.whole_body-next-requires
whole_body-next-requires c =
    let key = after c.self.inside.bytes.now c.self.inside.at c.args.key (omega (arith, c.if-self.false)) (omega (arith, c.if-self-key.false)) c.requires.short (stands c.self.view_is c.requires.whole c.if-self.false) in
    (key.content, key.next, key.type ∙ sym c.from.ensures, key.payload)

pub returns-clause-field : goal.returns-clause-field
returns-clause-field c =
    let bytes = c.self.inside.bytes.now in
    let at = c.self.inside.at in
    let within : at < length bytes = omega (arith, c.if-self.false) in
    let is : get_or bytes at 0 ≡ c.args.key = omega (arith, c.if-self-key.false) in
    let key = after bytes at c.args.key within is c.requires.short (stands c.self.view_is c.requires.whole c.if-self.false) in
    let entry : Entry = record { number = c.from-number.result; at = at; content = content_of c.whole_body-next.result.0 } in
    subst (λ (old : Walk). GivesField old (record { bytes = bytes; at = c.whole_body-next.result.1 }) entry) c.self.view_is
    (GivesField-after_key bytes at (at + 1) c.args.key c.whole_body-next.result.1 c.from-number.result (content_of c.whole_body-next.result.0) (key_encoded bytes at c.args.key within is c.requires.short)
    key.numbered key.small c.from-number.ensures (c.whole_body-next.ensures.wire_type ∙ c.from.ensures) c.whole_body-next.ensures.payload)

-- What the payload of a field is that fits the rule for its number, and the last of a list.
use Rattle.std.proofs.Common.{◌≡◌, ℕ, ◌<◌, ◌==◌, nat_le, List, [], ◌∷◌, ◌++◌, Some, refl, sym, ◌∙◌, ap}
use Rattle.std.proofs.lemmas.Bool.{eqb-true, leb-false}
use Rattle.mvt_wire.specs.Field.{content_of, entry_of, Content, varint, eight_bytes, delimited, four_bytes, Entry, wire_type_of}
use Rattle.mvt_wire.specs.Schema.{rule_of, is_own, is_out_of_range}
use Rattle.mvt_rules.specs.Tile.{Fits}
use Rattle.mvt_wire.specs.Payload.{number_in}
use Rattle.mvt_rules.specs.Parts.Fields.{FitsRule}
use Rattle.mvt_wire.specs.declared.field.Field.{Field}
use Rattle.mvt_wire.specs.declared.schema.FieldRule.{FieldRule}
use Rattle.mvt_wire.specs.declared.schema.Message.{Message}
use Rattle.mvt_tile.specs.Calls.Reading.{last_of}

-- the rule for a number that is known
pub fits_at : (message : Message) (entry : Entry) (field_number : ℕ) (rule : FieldRule)
    → FitsRule message entry → entry.number ≡ field_number → rule_of message field_number ≡ Some rule → Fits rule entry.content
fits_at message entry field_number rule fits is known = fits rule (ap (rule_of message) is ∙ known)

-- the one wire type of a field whose number is known
pub own_type : (message : Message) (field : Field) (field_number wire_type : ℕ) {rule : FieldRule}
    → FitsRule message (entry_of field) → field.number ≡ field_number → rule_of message field_number ≡ Some rule → ((t : ℕ) → is_own rule.shape t ≡ (t == wire_type)) → wire_type_of (content_of field.body) ≡ wire_type
own_type message field field_number wire_type fits is known own =
    let type = wire_type_of (content_of field.body) in
    eqb-true type wire_type (sym (own type) ∙ (fits_at message (entry_of field) field_number _ fits is known).own)

-- a number that is read is the varint's
pub varint_from : (content : Content) (n : ℕ) → number_in content ≡ Some n → (at : ℕ) × (content ≡ varint n at)
varint_from (varint value at) n told = (at, cc)
varint_from (eight_bytes part) n told = absurd (cc)
varint_from (delimited from part) n told = absurd (cc)
varint_from (four_bytes part) n told = absurd (cc)

-- a number lies below the limit of its shape
pub below_limit : (rule : FieldRule) (content : Content) (limit n : ℕ)
    → Fits rule content → ((v : ℕ) → is_out_of_range rule.shape v ≡ nat_le limit v) → number_in content ≡ Some n → n < limit
below_limit rule content limit n fits out told =
    let place = varint_from content n told in
    leb-false limit n (sym (out n) ∙ fits.in_range n place.0 place.1)

-- the last of a list is the one that was added last
pub last_of-push : {A : Type 0} (otherwise x : A) (xs : List A) → last_of otherwise (xs ++ x ∷ []) ≡ x
last_of-push otherwise x [] = refl
last_of-push otherwise x (y ∷ ys) = last_of-push y x ys

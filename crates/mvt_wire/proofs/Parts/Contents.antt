-- The payloads of the fields of one number, and the numbers that they state.
use Rattle.std.proofs.Common.{◌≡◌, ℕ, ◌==◌, true, false, List, [], ◌∷◌, ◌++◌, length, map, sym, ◌∙◌, ap}
use Rattle.std.proofs.lemmas.Bool.{cond-true, cond-false}
use Rattle.mvt_wire.specs.Field.{Content, varint, delimited, Entry}
use Rattle.mvt_wire.specs.Number.{States, StateTogether}
use Rattle.mvt_wire.specs.Payload.{fields_of, contents_of}
use Rattle.mvt_wire.proofs.Encoding.PackedLists.{one_varint_list}

-- a field adds its payload to those of its own number, and to no others
pub contents_of-own : (field_number : ℕ) (entry : Entry) (entries : List Entry) → (entry.number == field_number) ≡ true → contents_of field_number (entry ∷ entries) ≡ entry.content ∷ contents_of field_number entries
contents_of-own field_number entry entries own =
    ap (map (λ (e : Entry). e.content)) (cond-true (entry.number == field_number) (entry ∷ fields_of field_number entries) (fields_of field_number entries) own)

pub contents_of-other : (field_number : ℕ) (entry : Entry) (entries : List Entry) → (entry.number == field_number) ≡ false → contents_of field_number (entry ∷ entries) ≡ contents_of field_number entries
contents_of-other field_number entry entries other =
    ap (map (λ (e : Entry). e.content)) (cond-false (entry.number == field_number) (entry ∷ fields_of field_number entries) (fields_of field_number entries) other)

-- a field states one list of numbers
pub one_stated : (content : Content) (ms ns : List ℕ) → States content ms → States content ns → ms ≡ ns
one_stated (varint value at) ms ns h k = h ∙ sym k
one_stated (delimited from part) ms ns h k = one_varint_list part 0 (length part) ms ns h k
one_stated content ms ns h k = absurd h

-- and so do several together
pub one_joined : (contents : List Content) (ms ns : List ℕ) → StateTogether contents ms → StateTogether contents ns → ms ≡ ns
one_joined [] ms ns h k = h ∙ sym k
one_joined (content ∷ contents) ms ns h k =
    let first : h.0 ≡ k.0 = one_stated content h.0 k.0 h.2 k.2 in
    let rest : h.1 ≡ k.1 = one_joined contents h.1 k.1 h.3 k.3 in
    h.4 ∙ ap (λ (list : List ℕ). list ++ h.1) first ∙ ap (λ (list : List ℕ). k.0 ++ list) rest ∙ sym k.4

-- What is known while the fields of a message are walked, and their line is written.
use Rattle.std.proofs.Common.{◌≡◌, ℕ, ◌<◌, List, [], ◌∷◌, ◌++◌, Bool, true, false, if◌then◌else◌, length, codes, map, refl, ap, subst, sym, ◌∙◌, append_assoc}
use Rattle.std.proofs.lemmas.List.{map_push}
use Rattle.std.specs.List.{join_with_byte}
use Rattle.mvt_wire.proofs.Encoding.Messages.{FieldList-push, whole_or_defect}
use Rattle.mvt_wire.specs.Field.{Entry, FieldDefect, IsField}
use Rattle.mvt_wire.specs.Message.{FieldList, HasDefect, IsMessage}
use Rattle.mvt_wire.specs.Walk.{Walk, FindsDefect, GivesField}
use Rattle.mvt_wire.specs.declared.cause.WireCause.{WireCause}
use Rattle.mvt_engine.specs.FieldsLine.{field_text, fields_text, opening}

-- whether no field was written yet
abbrev pub has_none : List Entry → Bool
has_none [] = true
has_none (entry ∷ entries) = false

-- the walk over a message has passed these fields
pub record Passing (input : List ℕ) (walk : Walk) (entries : List Entry) : Type 0 where
  pub same_bytes : walk.bytes ≡ input
  pub passed : FieldList input 0 entries walk.at

-- the text so far is that of the fields that the walk has passed
pub record Listing (input : List ℕ) (walk : Walk) (text : List ℕ) (is_first : Bool) : Type 0 where
  pub entries : List Entry
  pub walked : Passing input walk entries
  pub written : text ≡ opening ++ fields_text entries
  pub first : is_first ≡ has_none entries

-- one more field was given
pub Passing-more : (input : List ℕ) (old new : Walk) (entries : List Entry) (entry : Entry)
    → Passing input old entries
    → GivesField old new entry
    → Passing input new (entries ++ entry ∷ [])
Passing-more input old new entries entry so_far given = record {
  same_bytes = given.same_bytes ∙ so_far.same_bytes;
  passed = FieldList-push input 0 entries old.at new.at entry so_far.passed given.here
      (let at : List ℕ → Type 0 = λ bytes. IsField bytes new.at entry in subst at so_far.same_bytes given.encoded);
}

-- a defect at the place of the walk is one of the message
pub Passing-defect : (input : List ℕ) (old new : Walk) (entries : List Entry) (cause : WireCause)
    → Passing input old entries
    → FindsDefect old new cause
    → HasDefect input 0 cause
Passing-defect input old new entries cause so_far found = record {
  entries = entries;
  at = old.at;
  before = so_far.passed;
  left = subst (λ bytes. old.at < length bytes) so_far.same_bytes found.left;
  defect = subst (λ bytes. FieldDefect bytes old.at cause) so_far.same_bytes found.defect;
}

-- one more piece after others
join-push : (c : ℕ) (piece : List ℕ) (pieces : List (List ℕ)) (last : List ℕ)
    → join_with_byte c ((piece ∷ pieces) ++ last ∷ []) ≡ join_with_byte c (piece ∷ pieces) ++ (c ∷ last)
join-push c piece [] last = refl
join-push c piece (next ∷ pieces) last =
    ap (λ rest. piece ++ (c ∷ rest)) (join-push c next pieces last)
    ∙ sym (append_assoc piece (c ∷ join_with_byte c (next ∷ pieces)) (c ∷ last))

-- the fields' text with one more field
fields_text-push : (first : Entry) (entries : List Entry) (entry : Entry)
    → fields_text ((first ∷ entries) ++ entry ∷ []) ≡ fields_text (first ∷ entries) ++ (44 ∷ field_text entry)
fields_text-push first entries entry =
    ap (join_with_byte 44) (map_push field_text (first ∷ entries) entry)
    ∙ join-push 44 (field_text first) (map field_text entries) (field_text entry)

-- what is written for one more field makes the text of one more field
written-push : (entries : List Entry) (entry : Entry) (old new : List ℕ) (is_first : Bool)
    → old ≡ opening ++ fields_text entries
    → is_first ≡ has_none entries
    → new ≡ old ++ (if is_first then [] else codes ",") ++ field_text entry
    → new ≡ opening ++ fields_text (entries ++ entry ∷ [])
written-push [] entry old new is_first before first after =
    after ∙ ap (λ text. text ++ (if is_first then [] else codes ",") ++ field_text entry) before
    ∙ ap (λ b. opening ++ (if b then [] else codes ",") ++ field_text entry) first
written-push (one ∷ entries) entry old new is_first before first after =
    let text = fields_text (one ∷ entries) in
    after ∙ ap (λ text. text ++ (if is_first then [] else codes ",") ++ field_text entry) before
    ∙ ap (λ b. (opening ++ text) ++ (if b then [] else codes ",") ++ field_text entry) first
    ∙ append_assoc (opening ++ text) (44 ∷ []) (field_text entry)
    ∙ append_assoc opening text (44 ∷ field_text entry)
    ∙ ap (λ rest. opening ++ rest) (sym (fields_text-push one entries entry))

-- some field was written
has_none-push : (entries : List Entry) (entry : Entry) → false ≡ has_none (entries ++ entry ∷ [])
has_none-push [] entry = refl
has_none-push (one ∷ entries) entry = refl

-- one more field was given and written
pub Listing-more : (input : List ℕ) (old new : Walk) (text longer : List ℕ) (is_first : Bool) (entry : Entry)
    → Listing input old text is_first
    → GivesField old new entry
    → longer ≡ text ++ (if is_first then [] else codes ",") ++ field_text entry
    → Listing input new longer false
Listing-more input old new text longer is_first entry so_far given after = record {
  entries = so_far.entries ++ entry ∷ [];
  walked = Passing-more input old new so_far.entries entry so_far.walked given;
  written = written-push so_far.entries entry text longer is_first so_far.written so_far.first after;
  first = has_none-push so_far.entries entry;
}

-- a whole message gives no defect
pub Listing-whole : (input : List ℕ) (old new : Walk) (text : List ℕ) (is_first : Bool) (cause : WireCause)
    → Listing input old text is_first
    → (entries : List Entry) × IsMessage input 0 entries
    → FindsDefect old new cause
    → ⊥
Listing-whole input old new text is_first cause so_far whole found =
    let bad = Passing-defect input old new so_far.entries cause so_far.walked found in
    whole_or_defect input 0 whole.0 cause whole.1 bad

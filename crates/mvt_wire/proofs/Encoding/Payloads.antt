-- The payloads of a message's fields: those of a number, and where they lie.
use Rattle.std.proofs.Common.{◌≡◌, ◌≢◌, ℕ, suc, ◌+◌, ◌-◌, ◌≤◌, ◌==◌, Bool, true, false, cond, List, [], ◌∷◌, ◌++◌, length, map, filter_map, slice_get, take, Option, Some, None, refl, ◌∙◌, ap, arith, length-take}
use Rattle.std.proofs.lemmas.Bool.{eq-eqb, ne_eqb}
use Rattle.std.proofs.lemmas.List.{append-nil, length-map, map-append}
use Rattle.std.proofs.lemmas.List.Edits.{length-between}
use Rattle.std.proofs.lemmas.List.Elements.{filter-append, filter_map-append}
use Rattle.std.specs.List.{cons_option}
use Rattle.mvt_wire.specs.Field.{Content, delimited, Entry, IsField, IsPayload}
use Rattle.mvt_wire.specs.Embedded.{LiesIn}
use Rattle.mvt_wire.specs.Payload.{fields_of, contents_of, Span, span_of, spans_of, count_of}

-- the payload of one field, if it has the number
one_content : (field_number : ℕ) (entry : Entry) (test : Bool) → (entry.number == field_number) ≡ test → contents_of field_number (entry ∷ []) ≡ cond test (entry.content ∷ []) []
one_content field_number entry test is = ap (λ (t : Bool). map (λ (e : Entry). e.content) (cond t (entry ∷ []) [])) is ∙ cases test where
  cases : (t : Bool) → map (λ (e : Entry). e.content) (cond t (entry ∷ []) []) ≡ cond t (entry.content ∷ []) []
  cases true = refl
  cases false = refl

-- the payloads of a number, of two lists of fields
pub contents_of-append : (field_number : ℕ) (xs ys : List Entry) → contents_of field_number (xs ++ ys) ≡ contents_of field_number xs ++ contents_of field_number ys
contents_of-append field_number xs ys =
    ap (map (λ (e : Entry). e.content)) (filter-append (λ (e : Entry). e.number == field_number) xs ys)
    ∙ map-append (λ (e : Entry). e.content) (fields_of field_number xs) (fields_of field_number ys)

-- a field of the number is added
pub contents_of-push : (field_number : ℕ) (entries : List Entry) (entry : Entry) → entry.number ≡ field_number
    → contents_of field_number (entries ++ entry ∷ []) ≡ contents_of field_number entries ++ entry.content ∷ []
contents_of-push field_number entries entry is =
    contents_of-append field_number entries (entry ∷ [])
    ∙ ap (λ (contents : List Content). contents_of field_number entries ++ contents) (one_content field_number entry true (eq-eqb entry.number field_number is))

-- a field of another number changes nothing
pub contents_of-other : (field_number : ℕ) (entries : List Entry) (entry : Entry) → entry.number ≢ field_number
    → contents_of field_number (entries ++ entry ∷ []) ≡ contents_of field_number entries
contents_of-other field_number entries entry other =
    contents_of-append field_number entries (entry ∷ [])
    ∙ ap (λ (contents : List Content). contents_of field_number entries ++ contents) (one_content field_number entry false (ne_eqb entry.number field_number other))
    ∙ append-nil (contents_of field_number entries)

-- the same for what is picked out of the payloads: their numbers, their texts or their places
pub picked-push : {A : Type 0} (pick : Content → Option A) (field_number : ℕ) (entries : List Entry) (entry : Entry) (x : A)
    → entry.number ≡ field_number → pick entry.content ≡ Some x
    → filter_map pick (contents_of field_number (entries ++ entry ∷ [])) ≡ filter_map pick (contents_of field_number entries) ++ x ∷ []
picked-push pick field_number entries entry x is picked =
    ap (filter_map pick) (contents_of-push field_number entries entry is)
    ∙ filter_map-append pick (contents_of field_number entries) (entry.content ∷ [])
    ∙ rw picked refl

pub picked-other : {A : Type 0} (pick : Content → Option A) (field_number : ℕ) (entries : List Entry) (entry : Entry)
    → entry.number ≢ field_number
    → filter_map pick (contents_of field_number (entries ++ entry ∷ [])) ≡ filter_map pick (contents_of field_number entries)
picked-other pick field_number entries entry other = ap (filter_map pick) (contents_of-other field_number entries entry other)

more : {B : Type 0} (o : Option B) (picked : List B) (n : ℕ) → length picked ≤ n → length (cons_option o picked) ≤ suc n
more None picked n few = omega arith
more (Some y) picked n few = omega arith

-- no more is picked than there are fields of the number
pub length-filter_map : {A B : Type 0} (pick : A → Option B) (xs : List A) → length (filter_map pick xs) ≤ length xs
length-filter_map pick [] = omega arith
length-filter_map pick (x ∷ xs) = more (pick x) (filter_map pick xs) (length xs) (length-filter_map pick xs)

pub few_picked : {A : Type 0} (pick : Content → Option A) (field_number : ℕ) (entries : List Entry)
    → count_of field_number entries ≤ 1 → length (filter_map pick (contents_of field_number entries)) ≤ 1
few_picked pick field_number entries few =
    omega (arith, length-filter_map pick (contents_of field_number entries), length-map {A = Entry} {B = Content})

-- the payloads in two parts of a field list
pub spans_of-append : (field_number : ℕ) (xs ys : List Entry) → spans_of field_number (xs ++ ys) ≡ spans_of field_number xs ++ spans_of field_number ys
spans_of-append field_number xs ys =
    ap (filter_map span_of) (contents_of-append field_number xs ys) ∙ filter_map-append span_of (contents_of field_number xs) (contents_of field_number ys)

-- what is after a list
pub slice_get-last : {X : Type 0} (xs : List X) (y : X) → slice_get (xs ++ y ∷ []) (length xs) ≡ Some y
slice_get-last [] y = refl
slice_get-last (x ∷ xs) y = slice_get-last xs y

-- a payload of wire type 2 lies within its message
pub payload_within : (message : List ℕ) (from to : ℕ) (content : Content) (span : Span) → IsPayload message from to content → span_of content ≡ Some span
    → (span.from ≤ span.to) × (span.to ≤ length message)
payload_within message from to (delimited start part) span payload there =
    let size : length part ≡ to - start = ap length payload.4 ∙ length-between message start to payload.3 in
    let starts : start ≡ span.from = cc in
    let ends : start + length part ≡ span.to = cc in
    (omega arith, omega arith)
payload_within message from to content span payload there = absurd (cc)

-- so does that of a field of a front of the bytes
pub LiesIn-field : (bytes : List ℕ) (end next : ℕ) (entry : Entry) → IsField (take end bytes) next entry → LiesIn bytes entry
LiesIn-field bytes end next entry field = λ span there.
    let inside = payload_within (take end bytes) field.key_end next entry.content span field.payload there in
    let shorter = length-take end bytes in
    (inside.0, omega arith)

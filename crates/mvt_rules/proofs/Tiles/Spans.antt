-- Where the payloads of a message lie, and lists with one member for each of them, in order.
use Rattle.std.proofs.Common.{◌≡◌, ℕ, suc, ◌+◌, ◌-◌, ◌≤◌, ◌==◌, ◌⊎◌, inl, inr, List, [], ◌∷◌, length, take, slice_get, filter_map, All, Some, refl, sym, ◌∙◌, ap, subst, arith, length-take-le}
use Rattle.std.proofs.lemmas.Bool.{cases_Bool}
use Rattle.std.proofs.lemmas.List.{length-take}
use Rattle.std.proofs.lemmas.List.Edits.{length-between}
use Rattle.std.proofs.lemmas.List.Elements.{All-nil, All-cons, All-head, All-tail, All-weaker}
use Rattle.mvt_wire.specs.Field.{Content, delimited, Entry, IsPayload}
use Rattle.mvt_wire.specs.Message.{FieldList}
use Rattle.mvt_wire.specs.Payload.{contents_of, Span, span_of, spans_of}
use Rattle.mvt_rules.specs.Scope.{IsMessageAt}
use Rattle.mvt_rules.specs.Tile.{Each}
use Rattle.mvt_wire.proofs.Parts.Contents.{contents_of-own, contents_of-other}

-- a span of the bytes
pub record Within (bytes : List ℕ) (span : Span) : Type 0 where
  pub forward : span.from ≤ span.to
  pub inside : span.to ≤ length bytes

-- the payload after a length is a span of the bytes
payload_within : (bytes : List ℕ) (from to : ℕ) (content : Content) (contents : List Content) → IsPayload bytes from to content → All (Within bytes) (filter_map span_of contents) → All (Within bytes) (filter_map span_of (content ∷ contents))
payload_within bytes from to (delimited start part) contents p rest =
    let size : length part ≡ to - start = ap length p.4 ∙ length-between bytes start to p.3 in
    let inside : to ≤ length bytes = p.3 in
    All-cons (Within bytes) (record { from = start; to = start + length part }) (filter_map span_of contents) (record { forward = omega arith; inside = omega arith }) rest
payload_within bytes from to content contents p rest = rest

spans_in : (bytes : List ℕ) (from to field_number : ℕ) (entries : List Entry) → FieldList bytes from entries to → All (Within bytes) (spans_of field_number entries)
spans_in bytes from to field_number [] list = All-nil (Within bytes)
spans_in bytes from to field_number (entry ∷ entries) list =
    let rest = spans_in bytes list.1.0 to field_number entries list.1.2 in
    elim (cases_Bool (entry.number == field_number)) [
      | inr other ↦ subst (λ (contents : List Content). All (Within bytes) (filter_map span_of contents)) (sym (contents_of-other field_number entry entries other)) rest
      | inl own ↦
          let field = list.1.1 in
          subst (λ (contents : List Content). All (Within bytes) (filter_map span_of contents)) (sym (contents_of-own field_number entry entries own))
          (payload_within bytes field.key_end list.1.0 entry.content (contents_of field_number entries) field.payload rest)
    ]

-- the payloads of a message that is in the bytes lie in them
pub spans_within : (bytes : List ℕ) (outer : Span) (field_number : ℕ) (entries : List Entry) → IsMessageAt bytes outer entries → All (Within bytes) (spans_of field_number entries)
spans_within bytes outer field_number entries whole =
    let front = length-take outer.to bytes in
    All-weaker (Within (take outer.to bytes)) (Within bytes)
    (λ span within. let forward = within.forward in let inside = within.inside in record { forward = forward; inside = omega arith }) (spans_of field_number entries)
    (spans_in (take outer.to bytes) outer.from (length (take outer.to bytes)) field_number entries whole)

-- a span begins in the bytes up to its end
pub begins_within : (bytes : List ℕ) (span : Span) → Within bytes span → span.from ≤ length (take span.to bytes)
begins_within bytes span within =
    let size : length (take span.to bytes) ≡ span.to = length-take-le span.to bytes within.inside in
    omega arith

-- where one thing belongs to a member, one list belongs to a list
pub one_each : {A B : Type 0} (related : A → B → Type 0) → ((x : A) (y z : B) → related x y → related x z → y ≡ z) → (xs : List A) (ys zs : List B) → Each related xs ys → Each related xs zs → ys ≡ zs
one_each related one [] [] [] h k = refl
one_each related one [] (y ∷ ys) zs h k = absurd h
one_each related one (x ∷ xs) [] zs h k = absurd h
one_each related one (x ∷ xs) (y ∷ ys) (z ∷ zs) h k =
    let first : y ≡ z = one x y z h.0 k.0 in
    let rest : ys ≡ zs = one_each related one xs ys zs h.1 k.1 in
    cc
one_each related one xs ys zs h k = absurd k

-- something belongs to each span, or one of them is bad
abbrev pub EachOrBad : {A : Type 0} → (Span → A → Type 0) → (Span → Type 0) → List Span → Type 0
EachOrBad {A} related Bad spans = ((xs : List A) × Each related spans xs) ⊎ ((i : ℕ) × (span : Span) × (slice_get spans i ≡ Some span) × Bad span)

pub each_or_bad : {A : Type 0} (bytes : List ℕ) (related : Span → A → Type 0) (Bad : Span → Type 0) → ((span : Span) → Within bytes span → ((x : A) × related span x) ⊎ Bad span) → (spans : List Span) → All (Within bytes) spans → EachOrBad related Bad spans
each_or_bad bytes related Bad judge [] within = inl ([], tt)
each_or_bad bytes related Bad judge (span ∷ spans) within = elim (judge span (All-head (Within bytes) span spans within)) [
  | inr bad ↦ inr (0, span, refl, bad)
  | inl first ↦ elim (each_or_bad bytes related Bad judge spans (All-tail (Within bytes) span spans within)) [
    | inl rest ↦ inl (first.0 ∷ rest.0, (first.1, rest.1))
    | inr bad ↦ inr (suc bad.0, bad.1, bad.2, bad.3)
  ]
]

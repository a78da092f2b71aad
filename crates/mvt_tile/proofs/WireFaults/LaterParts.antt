-- Where the parts of a message lie that come after those of a front of its fields.
use Rattle.std.proofs.Common.{◌≡◌, ℕ, suc, zero, ◌+◌, ◌-◌, ◌<◌, ◌≤◌, ◌==◌, ◌⊎◌, inl, inr, List, [], ◌∷◌, ◌++◌, length, filter_map, slice_get, Some, refl, sym, ◌∙◌, ap, subst, arith}
use Rattle.std.proofs.lemmas.Bool.{cases_Bool}
use Rattle.std.proofs.lemmas.List.Edits.{length-between}
use Rattle.mvt_wire.specs.Field.{Content, varint, eight_bytes, delimited, four_bytes, Entry, IsField, IsPayload}
use Rattle.mvt_wire.specs.Message.{FieldList, IsMessage}
use Rattle.mvt_wire.specs.Payload.{contents_of, Span, span_of, spans_of}
use Rattle.mvt_wire.proofs.Encoding.Entries.{one_field, field_extent}
use Rattle.mvt_wire.proofs.Encoding.Messages.{longest_whole}
use Rattle.mvt_wire.proofs.Encoding.Payloads.{spans_of-append}
use Rattle.mvt_wire.proofs.FieldNumbers.NumberStops.{fields_forward}
use Rattle.mvt_wire.proofs.Parts.Contents.{contents_of-own, contents_of-other}

-- a span after one place, up to another
pub record LiesAfter (at to : ℕ) (span : Span) : Type 0 where
  pub after : at < span.from
  pub forward : span.from ≤ span.to
  pub before : span.to ≤ to

wider : (from to at end : ℕ) (span : Span) → from ≤ at → end ≤ to → LiesAfter at end span → LiesAfter from to span
wider from to at end span begins ends lies =
    let after = lies.after in
    let before = lies.before in
    record { after = omega arith; forward = lies.forward; before = omega arith }

-- the payload of a field
payload_after : (bytes : List ℕ) (from to : ℕ) (content : Content) (span : Span) → IsPayload bytes from to content → span_of content ≡ Some span → LiesAfter from to span
payload_after bytes from to (delimited start part) span payload there =
    let forward = payload.1.forward in
    let size : length part ≡ to - start = ap length payload.4 ∙ length-between bytes start to payload.3 in
    let starts : start ≡ span.from = cc in
    let ends : start + length part ≡ span.to = cc in
    let end : to ≡ start + payload.0 = payload.2 in
    record { after = omega arith; forward = omega arith; before = omega arith }
payload_after bytes from to content span payload there = absurd (cc)

pub field_after : (bytes : List ℕ) (next : ℕ) (entry : Entry) (span : Span) → IsField bytes next entry → span_of entry.content ≡ Some span → LiesAfter entry.at next span
field_after bytes next entry span field there =
    let forward = field.key.encoded.forward in
    wider entry.at next field.key_end next span (omega arith) (omega arith) (payload_after bytes field.key_end next entry.content span field.payload there)

-- a span of several payloads is that of the first, or one of the others
first_or_other : (content : Content) (contents : List Content) (ordinal : ℕ) (span : Span) → slice_get (filter_map span_of (content ∷ contents)) ordinal ≡ Some span
    → (span_of content ≡ Some span) ⊎ ((other : ℕ) × (slice_get (filter_map span_of contents) other ≡ Some span))
first_or_other (delimited start part) contents zero span here = inl here
first_or_other (delimited start part) contents (suc ordinal) span here = inr (ordinal, here)
first_or_other (varint value at) contents ordinal span here = inr (ordinal, here)
first_or_other (eight_bytes part) contents ordinal span here = inr (ordinal, here)
first_or_other (four_bytes part) contents ordinal span here = inr (ordinal, here)

-- the parts that fields hold lie among them
pub parts_after : (bytes : List ℕ) (from to field_number : ℕ) (entries : List Entry) → FieldList bytes from entries to → (ordinal : ℕ) (span : Span) → slice_get (spans_of field_number entries) ordinal ≡ Some span → LiesAfter from to span
parts_after bytes from to field_number [] list ordinal span here = absurd (cc)
parts_after bytes from to field_number (entry ∷ entries) list ordinal span here =
    let next = list.1.0 in
    let extent = field_extent bytes next entry list.1.1 in
    let begins : entry.at ≡ from = list.0 in
    let forward : next ≤ to = fields_forward bytes next to entries list.1.2 in
    let later = λ (other : ℕ) (there : slice_get (spans_of field_number entries) other ≡ Some span). wider from to next to span (omega arith) (omega arith) (parts_after bytes next to field_number entries list.1.2 other span there) in
    elim (cases_Bool (entry.number == field_number)) [
      | inr other ↦ later ordinal (subst (λ (contents : List Content). slice_get (filter_map span_of contents) ordinal ≡ Some span) (contents_of-other field_number entry entries other) here)
      | inl own ↦ elim (first_or_other entry.content (contents_of field_number entries) ordinal span (subst (λ (contents : List Content). slice_get (filter_map span_of contents) ordinal ≡ Some span) (contents_of-own field_number entry entries own) here)) [
        | inl first ↦ wider from to entry.at next span (omega arith) (omega arith) (field_after bytes next entry span list.1.1 first)
        | inr rest ↦ later rest.0 rest.1
      ]
    ]

-- what is left after a front of a field list
rest_of_list : (bytes : List ℕ) (from at to : ℕ) (front rest : List Entry) → FieldList bytes from (front ++ rest) to → FieldList bytes from front at → FieldList bytes at rest to
rest_of_list bytes from at to [] rest list passed = subst (λ (place : ℕ). FieldList bytes place rest to) passed list
rest_of_list bytes from at to (entry ∷ front) rest list passed =
    let same = one_field bytes passed.1.0 list.1.0 entry entry refl passed.1.1 list.1.1 in
    rest_of_list bytes list.1.0 at to front rest list.1.2 (subst (λ (next : ℕ). FieldList bytes next front at) same.0 passed.1.2)

-- what is in two lists together is in one of them
in_one_of : {X : Type 0} (xs ys : List X) (i : ℕ) (x : X) → slice_get (xs ++ ys) i ≡ Some x → (slice_get xs i ≡ Some x) ⊎ ((j : ℕ) × (slice_get ys j ≡ Some x))
in_one_of [] ys i x here = inr (i, here)
in_one_of (first ∷ xs) ys zero x here = inl here
in_one_of (first ∷ xs) ys (suc i) x here = in_one_of xs ys i x here

-- a payload ends where its field does
payload_end : (bytes : List ℕ) (from to : ℕ) (content : Content) (span : Span) → IsPayload bytes from to content → span_of content ≡ Some span → to ≤ span.to
payload_end bytes from to (delimited start part) span payload there =
    let forward = payload.1.forward in
    let size : length part ≡ to - start = ap length payload.4 ∙ length-between bytes start to payload.3 in
    let ends : start + length part ≡ span.to = cc in
    let end : to ≡ start + payload.0 = payload.2 in
    omega arith
payload_end bytes from to content span payload there = absurd (cc)

-- the parts that fields hold end with the first of these, or later
parts_end : (bytes : List ℕ) (from to field_number : ℕ) (entries : List Entry) → FieldList bytes from entries to → (ordinal : ℕ) (span : Span) → slice_get (spans_of field_number entries) ordinal ≡ Some span
    → (next : ℕ) (entry : Entry) → entry.at ≡ from → IsField bytes next entry → next ≤ span.to
parts_end bytes from to field_number [] list ordinal span here next entry begins field = absurd (cc)
parts_end bytes from to field_number (first ∷ entries) list ordinal span here next entry begins field =
    let same = one_field bytes next list.1.0 entry first (begins ∙ sym list.0) field list.1.1 in
    let end : next ≡ list.1.0 = same.0 in
    let later = λ (other : ℕ) (there : slice_get (spans_of field_number entries) other ≡ Some span). let lies = parts_after bytes list.1.0 to field_number entries list.1.2 other span there in let ends : next ≤ span.to = omega (arith, lies.after, lies.forward) in ends in
    elim (cases_Bool (first.number == field_number)) [
      | inr other ↦ later ordinal (subst (λ (contents : List Content). slice_get (filter_map span_of contents) ordinal ≡ Some span) (contents_of-other field_number first entries other) here)
      | inl own ↦ elim (first_or_other first.content (contents_of field_number entries) ordinal span (subst (λ (contents : List Content). slice_get (filter_map span_of contents) ordinal ≡ Some span) (contents_of-own field_number first entries own) here)) [
        | inl its ↦ let ends = payload_end bytes list.1.1.key_end list.1.0 first.content span list.1.1.payload its in omega arith
        | inr rest ↦ later rest.0 rest.1
      ]
    ]

module _ (bytes : List ℕ) (from at field_number : ℕ) (front whole : List Entry) (passed : FieldList bytes from front at) (is_whole : IsMessage bytes from whole) (ordinal : ℕ) (span : Span) (here : slice_get (spans_of field_number whole) ordinal ≡ Some span) where
  -- a part of a whole message is one of those that were passed, or of the rest
  passed_or_rest : (slice_get (spans_of field_number front) ordinal ≡ Some span) ⊎ ((rest : List Entry) × FieldList bytes at rest (length bytes) × ((other : ℕ) × (slice_get (spans_of field_number rest) other ≡ Some span)))
  passed_or_rest =
      let all = longest_whole bytes from at whole front is_whole passed in
      let both : slice_get (spans_of field_number front ++ spans_of field_number all.0) ordinal ≡ Some span = subst (λ (spans : List Span). slice_get spans ordinal ≡ Some span) (ap (spans_of field_number) all.1 ∙ spans_of-append field_number front all.0) here in
      let left : FieldList bytes at all.0 (length bytes) = rest_of_list bytes from at (length bytes) front all.0 (subst (λ (entries : List Entry). FieldList bytes from entries (length bytes)) all.1 is_whole) passed in
      elim (in_one_of (spans_of field_number front) (spans_of field_number all.0) ordinal span both) [
        | inl passed ↦ inl passed
        | inr later ↦ inr (all.0, left, later)
      ]

  -- so it is one of those, or lies after them
  pub passed_or_later : (slice_get (spans_of field_number front) ordinal ≡ Some span) ⊎ LiesAfter at (length bytes) span
  passed_or_later = elim passed_or_rest [
    | inl passed ↦ inl passed
    | inr left ↦ inr (parts_after bytes at (length bytes) field_number left.0 left.1 left.2.0 span left.2.1)
  ]

  -- and then it ends with the next field, or later
  pub passed_or_next : (next : ℕ) (entry : Entry) → entry.at ≡ at → IsField bytes next entry → (slice_get (spans_of field_number front) ordinal ≡ Some span) ⊎ (next ≤ span.to)
  passed_or_next next entry begins field = elim passed_or_rest [
    | inl passed ↦ inl passed
    | inr left ↦ inr (parts_end bytes at (length bytes) field_number left.0 left.1 left.2.0 span left.2.1 next entry begins field)
  ]

-- Where the payloads of a message's fields lie, one field after others.
use Rattle.std.proofs.Common.{◌≡◌, ◌≢◌, ℕ, suc, zero, ◌==◌, List, [], ◌∷◌, ◌++◌, length, take, map, filter_map, slice_get, Some, None, inl, inr, refl, sym, ◌∙◌, ap, subst, arith, append-nil, length-take}
use Rattle.std.proofs.lemmas.Bool.{cases_eq, eq-eqb, ne_eqb, cond-true, cond-false}
use Rattle.mvt_wire.specs.Field.{Entry, IsField}
use Rattle.mvt_wire.specs.Payload.{Span, span_of, spans_of}
use Rattle.mvt_rules.specs.Scope.{IsPart}
use Rattle.mvt_wire.specs.Walk.{Walk, GivesField}
use Rattle.mvt_wire.proofs.Encoding.Messages.{one_list}
use Rattle.mvt_wire.proofs.Walking.{IsWalking}
use Rattle.mvt_rules.proofs.Tiles.Spans.{Within}
use Rattle.mvt_wire.proofs.Encoding.Payloads.{spans_of-append, payload_within}

-- a field of the number is added, with a payload of wire type 2
pub spans_of-push : (field_number : ℕ) (entries : List Entry) (entry : Entry) (span : Span) → entry.number ≡ field_number → span_of entry.content ≡ Some span
    → spans_of field_number (entries ++ entry ∷ []) ≡ spans_of field_number entries ++ span ∷ []
spans_of-push field_number entries entry span own payload =
    let one : spans_of field_number (entry ∷ []) ≡ filter_map span_of (entry.content ∷ []) =
    ap (λ (fields : List Entry). filter_map span_of (map (λ (e : Entry). e.content) fields)) (cond-true (entry.number == field_number) (entry ∷ []) [] (eq-eqb entry.number field_number own)) in
    let there : filter_map span_of (entry.content ∷ []) ≡ span ∷ [] = rw payload refl in
    spans_of-append field_number entries (entry ∷ []) ∙ ap (λ (rest : List Span). spans_of field_number entries ++ rest) (one ∙ there)

-- another field is added
other_field : (field_number : ℕ) (entry : Entry) → entry.number ≢ field_number → spans_of field_number (entry ∷ []) ≡ []
other_field field_number entry other =
    ap (λ (fields : List Entry). filter_map span_of (map (λ (e : Entry). e.content) fields)) (cond-false (entry.number == field_number) (entry ∷ []) [] (ne_eqb entry.number field_number other))

no_payload : (field_number : ℕ) (entry : Entry) → entry.number ≡ field_number → span_of entry.content ≡ None → spans_of field_number (entry ∷ []) ≡ []
no_payload field_number entry own none =
    let one : spans_of field_number (entry ∷ []) ≡ filter_map span_of (entry.content ∷ []) =
    ap (λ (fields : List Entry). filter_map span_of (map (λ (e : Entry). e.content) fields)) (cond-true (entry.number == field_number) (entry ∷ []) [] (eq-eqb entry.number field_number own)) in
    let there : filter_map span_of (entry.content ∷ []) ≡ [] = rw none refl in
    one ∙ there

pub spans_of-same : (field_number : ℕ) (entries : List Entry) (entry : Entry) → (entry.number ≡ field_number → span_of entry.content ≡ None)
    → spans_of field_number (entries ++ entry ∷ []) ≡ spans_of field_number entries
spans_of-same field_number entries entry none =
    let alone : spans_of field_number (entry ∷ []) ≡ [] = elim (cases_eq entry.number field_number) [
      | inl own ↦ no_payload field_number entry own (none own)
      | inr other ↦ other_field field_number entry other
    ] in
    spans_of-append field_number entries (entry ∷ []) ∙ ap (λ (rest : List Span). spans_of field_number entries ++ rest) alone ∙ append-nil (spans_of field_number entries)

pub slice_get-other : {X : Type 0} (xs : List X) (y : X) (i : ℕ) → i ≢ length xs → slice_get (xs ++ y ∷ []) i ≡ slice_get xs i
slice_get-other [] y zero other = absurd (other refl)
slice_get-other [] y (suc i) other = refl
slice_get-other (x ∷ xs) y zero other = refl
slice_get-other (x ∷ xs) y (suc i) other = slice_get-other xs y i (λ same. other (omega arith))

pub Within-given : (bytes : List ℕ) (end from : ℕ) (old new : Walk) (entries : List Entry) (entry : Entry) (span : Span)
    → IsWalking (take end bytes) from old entries → GivesField old new entry → span_of entry.content ≡ Some span → Within bytes span
Within-given bytes end from old new entries entry span so_far given there =
    let encoded : IsField (take end bytes) new.at entry = subst (λ (message : List ℕ). IsField message new.at entry) so_far.same_bytes given.encoded in
    let inside = payload_within (take end bytes) encoded.key_end new.at entry.content span encoded.payload there in
    let shorter = length-take end bytes in
    record { forward = inside.0; inside = omega arith }

-- a message has one payload with an ordinal
pub one_part : (bytes : List ℕ) (outer first second : Span) (field_number ordinal : ℕ) → IsPart bytes outer field_number ordinal first → IsPart bytes outer field_number ordinal second → first ≡ second
one_part bytes outer first second field_number ordinal h k =
    let same : h.entries ≡ k.entries = one_list (take outer.to bytes) outer.from h.entries k.entries h.whole k.whole in
    let both : Some first ≡ Some second = sym h.here ∙ ap (λ (entries : List Entry). slice_get (spans_of field_number entries) ordinal) same ∙ k.here in
    cc

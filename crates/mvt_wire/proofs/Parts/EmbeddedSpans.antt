-- Where embedded messages lie, one field after others, and the first in which something is found.
use Rattle.std.proofs.Common.{◌≡◌, ◌⊎◌, ℕ, suc, zero, ◌+◌, ◌<◌, true, false, List, [], ◌∷◌, ◌++◌, length, filter_map, is_some, Option, Some, None, slice_get, inl, inr, refl, sym, ◌∙◌, ap, subst, arith, append-nil, length-append}
use Rattle.std.proofs.lemmas.List.Elements.{filter_map-append}
use Rattle.std.proofs.lemmas.Option.{slice_get_within, same_Some}
use Rattle.mvt_wire.specs.Field.{Entry, content_of, entry_of}
use Rattle.mvt_wire.specs.Payload.{contents_of, Span, span_of, spans_of}
use Rattle.mvt_wire.specs.Calls.Scope.{span_between}
use Rattle.std.specs.Borrow.{Bor}
use Rattle.mvt_wire.specs.declared.field.Field.{Field}
use Rattle.mvt_wire.specs.declared.field.Body.{Body}
use Rattle.mvt_wire.specs.declared.field.Body.TheVariants.{Varint, Fixed64, Bytes, Fixed32}
use Rattle.mvt_wire.specs.Embedded.{AreClean, IsFirst, FindsFirst}
use Rattle.mvt_wire.proofs.Encoding.Payloads.{contents_of-push, picked-push, picked-other, spans_of-append, slice_get-last}

-- a payload of another wire type holds none
abbrev pub IsNoPart : Body → Type 0
IsNoPart body = (from : ℕ) (slice : Bor (List ℕ)) → body ≡ Bytes from slice → ⊥

no_span : (body : Body) → IsNoPart body → filter_map span_of (content_of body ∷ []) ≡ []
no_span (Varint value at) not = refl
no_span (Fixed64 part) not = refl
no_span (Bytes from slice) not = absurd (not from slice refl)
no_span (Fixed32 part) not = refl

spans_of-no_part : (field_number : ℕ) (entries : List Entry) (field : Field) → field.number ≡ field_number → IsNoPart field.body → spans_of field_number (entries ++ entry_of field ∷ []) ≡ spans_of field_number entries
spans_of-no_part field_number entries field own not =
    ap (filter_map span_of) (contents_of-push field_number entries (entry_of field) own)
    ∙ filter_map-append span_of (contents_of field_number entries) (content_of field.body ∷ [])
    ∙ ap (λ (rest : List Span). spans_of field_number entries ++ rest) (no_span field.body not) ∙ append-nil (spans_of field_number entries)

-- what is in a list is in a longer one
pub slice_get-append : {X : Type 0} (xs ys : List X) (i : ℕ) → i < length xs → slice_get (xs ++ ys) i ≡ slice_get xs i
slice_get-append [] ys i within = absurd (omega arith)
slice_get-append (x ∷ xs) ys zero within = refl
slice_get-append (x ∷ xs) ys (suc i) within = slice_get-append xs ys i (omega arith)

pub slice_get-some : {X : Type 0} (xs ys : List X) (i : ℕ) (x : X) → slice_get xs i ≡ Some x → slice_get (xs ++ ys) i ≡ Some x
slice_get-some xs ys i x here = slice_get-append xs ys i (slice_get_within xs i x here) ∙ here

-- what is in a list with one more at its end
pub slice_get-push : {X : Type 0} (xs : List X) (y : X) (i : ℕ) (x : X) → slice_get (xs ++ y ∷ []) i ≡ Some x → (slice_get xs i ≡ Some x) ⊎ ((i ≡ length xs) × (x ≡ y))
slice_get-push [] y zero x is = inr (refl, sym (same_Some _ _ is))
slice_get-push [] y (suc i) x is = absurd (cc)
slice_get-push (z ∷ xs) y zero x is = inl is
slice_get-push (z ∷ xs) y (suc i) x is = elim (slice_get-push xs y i x is) [ inl here ↦ inl here | inr last ↦ inr (ap suc last.0, last.1) ]

-- one more clean span
pub AreClean-push : (Clean : ℕ → Span → Type 0) (spans : List Span) (span : Span) → AreClean Clean spans → Clean (length spans) span → AreClean Clean (spans ++ span ∷ [])
AreClean-push Clean spans span clean last ordinal other here = elim (slice_get-push spans span ordinal other here) [
  | inl front ↦ clean ordinal other front
  | inr end ↦ subst (λ (k : ℕ). Clean k other) (sym end.0) (subst (Clean (length spans)) (sym end.1) last)
]

-- the first stays the first
IsFirst-more : (Clean Found : ℕ → Span → Type 0) (spans rest : List Span) → IsFirst Clean Found spans → IsFirst Clean Found (spans ++ rest)
IsFirst-more Clean Found spans rest first =
    let within : first.ordinal < length spans = slice_get_within spans first.ordinal first.span first.here in
    record {
      ordinal = first.ordinal;
      span = first.span;
      here = slice_get-some spans rest first.ordinal first.span first.here;
      found = first.found;
      before = λ earlier other less here. first.before earlier other less (sym (slice_get-append spans rest earlier (omega arith)) ∙ here);
    }

module _ {R : Type 0} (Clean : ℕ → Span → Type 0) (Found : R → ℕ → Span → Type 0) where
  -- what was found stays the first
  FindsFirst-kept : (spans rest : List Span) (count : ℕ) (first : Option R) → is_some first ≡ true → FindsFirst Clean Found spans count first → FindsFirst Clean Found (spans ++ rest) count first
  FindsFirst-kept spans rest count None some finds = absurd (cc)
  FindsFirst-kept spans rest count (Some found) some finds = IsFirst-more Clean (Found found) spans rest finds

  -- one more clean one
  FindsFirst-clean : (spans : List Span) (span : Span) (count : ℕ) (first : Option R) → is_some first ≡ false → Clean count span → FindsFirst Clean Found spans count first
      → FindsFirst Clean Found (spans ++ span ∷ []) (count + 1) first
  FindsFirst-clean spans span count (Some found) none clean finds = absurd (cc)
  FindsFirst-clean spans span count None none clean finds =
      let size : length (spans ++ span ∷ []) ≡ length spans + 1 = length-append spans (span ∷ []) in
      (omega (arith, finds.0), AreClean-push Clean spans span finds.1 (subst (λ (k : ℕ). Clean k span) finds.0 clean))

  -- the first in which something is found
  FindsFirst-found : (spans : List Span) (span : Span) (count : ℕ) (first : Option R) (found : R) → is_some first ≡ false → Found found count span → FindsFirst Clean Found spans count first
      → FindsFirst Clean Found (spans ++ span ∷ []) count (Some found)
  FindsFirst-found spans span count (Some other) found none here finds = absurd (cc)
  FindsFirst-found spans span count None found none here finds = record {
    ordinal = count;
    span = span;
    here = ap (slice_get (spans ++ span ∷ [])) finds.0 ∙ slice_get-last spans span;
    found = here;
    before = λ earlier other less at.
        let within : earlier < length spans = omega (arith, finds.0) in
        finds.1 earlier other (sym (slice_get-append spans (span ∷ []) earlier within) ∙ at);
  }

  -- The same for a field after others, by what it is.
  pub passes_found : (entries : List Entry) (field : Field) (field_number count : ℕ) (first : Option R) → is_some first ≡ true
      → FindsFirst Clean Found (spans_of field_number entries) count first → FindsFirst Clean Found (spans_of field_number (entries ++ entry_of field ∷ [])) count first
  passes_found entries field field_number count first some finds =
      subst (λ (spans : List Span). FindsFirst Clean Found spans count first) (sym (spans_of-append field_number entries (entry_of field ∷ [])))
      (FindsFirst-kept (spans_of field_number entries) (spans_of field_number (entry_of field ∷ [])) count first some finds)

  pub passes_other : (entries : List Entry) (field : Field) (field_number count : ℕ) (first : Option R) → ¬ (field.number ≡ field_number)
      → FindsFirst Clean Found (spans_of field_number entries) count first → FindsFirst Clean Found (spans_of field_number (entries ++ entry_of field ∷ [])) count first
  passes_other entries field field_number count first other finds =
      subst (λ (spans : List Span). FindsFirst Clean Found spans count first) (sym (picked-other span_of field_number entries (entry_of field) other)) finds

  pub passes_no_part : (entries : List Entry) (field : Field) (field_number count : ℕ) (first : Option R) → field.number ≡ field_number → IsNoPart field.body
      → FindsFirst Clean Found (spans_of field_number entries) count first → FindsFirst Clean Found (spans_of field_number (entries ++ entry_of field ∷ [])) count first
  passes_no_part entries field field_number count first own not finds =
      subst (λ (spans : List Span). FindsFirst Clean Found spans count first) (sym (spans_of-no_part field_number entries field own not)) finds

  pub passes_clean : (entries : List Entry) (field : Field) (field_number count : ℕ) (first : Option R) (from : ℕ) (slice : Bor (List ℕ)) → field.number ≡ field_number → field.body ≡ Bytes from slice → is_some first ≡ false
      → Clean count (span_between from (from + length slice.now))
      → FindsFirst Clean Found (spans_of field_number entries) count first → FindsFirst Clean Found (spans_of field_number (entries ++ entry_of field ∷ [])) (count + 1) first
  passes_clean entries field field_number count first from slice own body none clean finds =
      subst (λ (spans : List Span). FindsFirst Clean Found spans (count + 1) first) (sym (picked-push span_of field_number entries (entry_of field) (span_between from (from + length slice.now)) own (ap (λ (b : Body). span_of (content_of b)) body)))
      (FindsFirst-clean (spans_of field_number entries) (span_between from (from + length slice.now)) count first none clean finds)

  pub passes_first : (entries : List Entry) (field : Field) (field_number count : ℕ) (first : Option R) (found : R) (from : ℕ) (slice : Bor (List ℕ)) → field.number ≡ field_number → field.body ≡ Bytes from slice → is_some first ≡ false
      → Found found count (span_between from (from + length slice.now))
      → FindsFirst Clean Found (spans_of field_number entries) count first → FindsFirst Clean Found (spans_of field_number (entries ++ entry_of field ∷ [])) count (Some found)
  passes_first entries field field_number count first found from slice own body none here finds =
      subst (λ (spans : List Span). FindsFirst Clean Found spans count (Some found)) (sym (picked-push span_of field_number entries (entry_of field) (span_between from (from + length slice.now)) own (ap (λ (b : Body). span_of (content_of b)) body)))
      (FindsFirst-found (spans_of field_number entries) (span_between from (from + length slice.now)) count first found none here finds)

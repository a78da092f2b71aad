-- What one more field changes of what is required of the messages that a message embeds, and where these lie.
use Rattle.std.proofs.Common.{◌≡◌, ◌↔◌, ℕ, ◌≤◌, ◌==◌, inl, inr, List, ◌∷◌, length, map, filter_map, All, Option, Some, None, refl, sym, ap, subst, arith}
use Rattle.std.specs.List.{cons_option}
use Rattle.std.proofs.lemmas.Bool.{cases_eq, eq-eqb, ne_eqb, cond-true, cond-false}
use Rattle.std.proofs.lemmas.List.Elements.{All-cons, All-head, All-tail}
use Rattle.mvt_wire.specs.Field.{Entry}
use Rattle.mvt_wire.specs.Payload.{fields_of, Span, span_of, spans_of}
use Rattle.mvt_wire.specs.Calls.Scope.{Embeds}
use Rattle.mvt_wire.specs.Walk.{Walk, GivesField}
use Rattle.mvt_wire.proofs.Encoding.Payloads.{payload_within}

module _ (Stands : Span → Type 0) where
  -- a span more, or none
  all_option : (o : Option Span) (spans : List Span) → All Stands (cons_option o spans) ↔ (((span : Span) → o ≡ Some span → Stands span) × All Stands spans)
  all_option None spans = (λ all. (λ span there. absurd (cc), all), λ both. both.1)
  all_option (Some first) spans = (
    λ all. (λ span there. let same : first ≡ span = cc in subst Stands same (All-head Stands first spans all), All-tail Stands first spans all),
    λ both. All-cons Stands first spans (both.0 first refl) both.1,
  )

  -- the spans of a number are as they should be where those of the first field and of those after it are
  split : (field_number : ℕ) (entry : Entry) (rest : List Entry) → All Stands (spans_of field_number (entry ∷ rest)) ↔ (Embeds field_number Stands entry × All Stands (spans_of field_number rest))
  split field_number entry rest =
      let spans : List Entry → List Span = λ entries. filter_map span_of (map (λ (e : Entry). e.content) entries) in
      elim (cases_eq entry.number field_number) [
        | inl own ↦
            let same : spans_of field_number (entry ∷ rest) ≡ cons_option (span_of entry.content) (spans_of field_number rest) =
            ap spans (cond-true (entry.number == field_number) (entry ∷ fields_of field_number rest) (fields_of field_number rest) (eq-eqb entry.number field_number own)) in
            let parts = all_option (span_of entry.content) (spans_of field_number rest) in (
              λ all. let both = parts.0 (subst (All Stands) same all) in (λ span here there. both.0 span there, both.1),
              λ both. subst (All Stands) (sym same) (parts.1 (λ span there. both.0 span own there, both.1)),
            )
        | inr other ↦
            let same : spans_of field_number (entry ∷ rest) ≡ spans_of field_number rest =
            ap spans (cond-false (entry.number == field_number) (entry ∷ fields_of field_number rest) (fields_of field_number rest) (ne_eqb entry.number field_number other)) in (
              λ all. (λ span here there. absurd (other here), subst (All Stands) same all),
              λ both. subst (All Stands) (sym same) both.1,
            )
      ]

  -- a field whose span is as it should be changes nothing
  pub part_passed : (field_number : ℕ) (entry : Entry) → Embeds field_number Stands entry → (rest : List Entry) → All Stands (spans_of field_number rest) ↔ All Stands (spans_of field_number (entry ∷ rest))
  part_passed field_number entry embeds rest = (
    λ all. (split field_number entry rest).1 (embeds, all),
    λ all. ((split field_number entry rest).0 all).1,
  )

  -- and one whose span isn't is in no list that is
  pub part_refused : (field_number : ℕ) (entry : Entry) → ¬ Embeds field_number Stands entry → (rest : List Entry) → ¬ All Stands (spans_of field_number (entry ∷ rest))
  part_refused field_number entry not rest all = not ((split field_number entry rest).0 all).0

-- and so within all the bytes
pub lies_within : (size : ℕ) (old new : Walk) (entry : Entry) → GivesField old new entry → length old.bytes ≤ size → (span : Span) → span_of entry.content ≡ Some span → (span.from ≤ span.to) × (span.to ≤ size)
lies_within size old new entry given front span there =
    let inside = payload_within old.bytes given.encoded.key_end new.at entry.content span given.encoded.payload there in
    (inside.0, omega (arith, inside.1))

-- a field that embeds a span is as the span is
pub embeds_one : (Stands : Span → Type 0) (field_number : ℕ) (entry : Entry) (span : Span) → entry.number ≡ field_number → span_of entry.content ≡ Some span → Stands span ↔ Embeds field_number Stands entry
embeds_one Stands field_number entry span own there = (
  λ stands other here also. let same : span ≡ other = cc in subst Stands same stands,
  λ embeds. embeds span own there,
)

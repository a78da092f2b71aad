-- Where the messages lie that a message embeds, and their records.
use Rattle.std.proofs.Common.{◌≡◌, ◌≢◌, ℕ, List, [], ◌∷◌, ◌++◌, take, Some, sym, ◌∙◌, ap, subst}
use Rattle.mvt_wire.specs.Field.{Entry, IsField}
use Rattle.mvt_wire.specs.Message.{IsMessage}
use Rattle.mvt_wire.specs.Embedded.{LiesIn}
use Rattle.mvt_wire.specs.Payload.{Span, span_of, spans_of}
use Rattle.mvt_wire.specs.Calls.Scope.{Embeds}
use Rattle.mvt_rules.specs.Tile.{Each}
use Rattle.mvt_wire.specs.Walk.{Walk, GivesField}
use Rattle.mvt_wire.proofs.Encoding.Payloads.{LiesIn-field, picked-push, picked-other, spans_of-append}
use Rattle.mvt_wire.proofs.Walking.{IsWalking-front, IsWalking}

-- one more span, and its record
Each-push : {A B : Type 0} (R : A → B → Type 0) (xs : List A) (ys : List B) (x : A) (y : B) → Each R xs ys → R x y → Each R (xs ++ x ∷ []) (ys ++ y ∷ [])
Each-push R [] [] x y each related = (related, tt)
Each-push R (first ∷ xs) (other ∷ ys) x y each related = (each.0, Each-push R xs ys x y each.1 related)
Each-push R [] (other ∷ ys) x y each related = absurd each
Each-push R (first ∷ xs) [] x y each related = absurd each

-- the record of a span among others
Each-at : {A B : Type 0} (R : A → B → Type 0) (xs rest : List A) (ys : List B) (x : A) → Each R ((xs ++ x ∷ []) ++ rest) ys → (y : B) × R x y
Each-at R [] rest [] x each = absurd each
Each-at R [] rest (y ∷ ys) x each = (y, each.0)
Each-at R (first ∷ xs) rest [] x each = absurd each
Each-at R (first ∷ xs) rest (y ∷ ys) x each = Each-at R xs rest ys x each.1

module _ {B : Type 0} (Stands : Span → B → Type 0) (field_number : ℕ) (entries : List Entry) (entry : Entry) where
  pub Each-picked : (records longer : List B) (span : Span) (read : B) → entry.number ≡ field_number → span_of entry.content ≡ Some span → Stands span read
      → longer ≡ records ++ read ∷ [] → Each Stands (spans_of field_number entries) records → Each Stands (spans_of field_number (entries ++ entry ∷ [])) longer
  Each-picked records longer span read is there stands pushed each =
      subst (λ (spans : List Span). Each Stands spans longer) (sym (picked-push span_of field_number entries entry span is there))
      (subst (λ (list : List B). Each Stands (spans_of field_number entries ++ span ∷ []) list) (sym pushed)
      (Each-push Stands (spans_of field_number entries) records span read each stands))

  pub Each-other : (records : List B) → entry.number ≢ field_number → Each Stands (spans_of field_number entries) records
      → Each Stands (spans_of field_number (entries ++ entry ∷ [])) records
  Each-other records other each =
      subst (λ (spans : List Span). Each Stands spans records) (sym (picked-other span_of field_number entries entry other)) each

-- a field that was given holds the span after those of the fields that were passed
module _ {message : List ℕ} {from : ℕ} {old new : Walk} {entries : List Entry} {entry : Entry} (whole : List Entry) (so_far : IsWalking message from old entries) (is_whole : IsMessage message from whole)
    (given : GivesField old new entry) (field_number : ℕ) where
  pub spans_front : (span : Span) → entry.number ≡ field_number → span_of entry.content ≡ Some span
      → (rest : List Span) × (spans_of field_number whole ≡ (spans_of field_number entries ++ span ∷ []) ++ rest)
  spans_front span is there =
      let front = IsWalking-front whole so_far is_whole given in (
        spans_of field_number front.0,
        ap (spans_of field_number) front.1
            ∙ spans_of-append field_number (entries ++ entry ∷ []) front.0
            ∙ ap (λ (list : List Span). list ++ spans_of field_number front.0) (picked-push span_of field_number entries entry span is there),
      )

  -- it has a record
  pub Embeds-given : {B : Type 0} (Stands : Span → B → Type 0) (records : List B) → Each Stands (spans_of field_number whole) records
      → Embeds field_number (λ span. (read : B) × Stands span read) entry
  Embeds-given Stands records each = λ span is there.
      let front = spans_front span is there in
      Each-at Stands (spans_of field_number entries) front.0 records span (subst (λ (list : List Span). Each Stands list records) front.1 each)

-- it lies within the bytes
pub LiesIn-given : (bytes : List ℕ) (end : ℕ) {from : ℕ} {old new : Walk} {entries : List Entry} {entry : Entry} → IsWalking (take end bytes) from old entries → GivesField old new entry → LiesIn bytes entry
LiesIn-given bytes end {new = new} {entry = entry} so_far given =
    LiesIn-field bytes end new.at entry (subst (λ (message : List ℕ). IsField message new.at entry) so_far.same_bytes given.encoded)

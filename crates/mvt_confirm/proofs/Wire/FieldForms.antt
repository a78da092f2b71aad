-- The faults of one field, by their forms.
use Rattle.std.proofs.Common.{◌≡◌, ℕ, ◌↔◌, IsTrue, Bool, true, false, ◌⊎◌, inl, inr, List, sym, ◌∙◌, subst, IsUtf8}
use Rattle.mvt_wire.specs.Field.{varint, delimited, Entry, wire_type_of, cause_at}
use Rattle.mvt_wire.specs.Number.{PackedFault}
use Rattle.mvt_wire.specs.Schema.{is_own, is_out_of_range, is_singular}
use Rattle.mvt_rules.specs.WireFault.{EntryFault, other_type, again, no_text, out_of_range, packed}
use Rattle.mvt_wire.specs.declared.cause.WireCause.{WireCause}
use Rattle.mvt_wire.specs.declared.cause.WireCode.TheVariants.{OtherType, Again, NotUtf8, OutOfRange}
use Rattle.mvt_wire.specs.declared.schema.FieldRule.{FieldRule}
use Rattle.mvt_wire.specs.declared.schema.Shape.TheVariants.{Text, Numbers}

module _ (rule : FieldRule) (occurred : Bool) (entry : Entry) (cause : WireCause) where
  abbrev pub IsOtherType : Type 0
  IsOtherType = (is_own rule.shape (wire_type_of entry.content) ≡ false) × (cause ≡ cause_at OtherType entry.at entry.number)

  abbrev pub IsAgain : Type 0
  IsAgain = (is_singular rule.occurrence ≡ true) × (occurred ≡ true) × (cause ≡ cause_at Again entry.at entry.number)

  abbrev pub IsNoText : Type 0
  IsNoText = (from : ℕ) × (part : List ℕ) × (rule.shape ≡ Text) × (entry.content ≡ delimited from part) × (¬ IsUtf8 part) × (cause ≡ cause_at NotUtf8 entry.at entry.number)

  abbrev pub IsOutOfRange : Type 0
  IsOutOfRange = (value at : ℕ) × (entry.content ≡ varint value at) × (is_out_of_range rule.shape value ≡ true) × (cause ≡ cause_at OutOfRange at entry.number)

  abbrev pub IsInPackedList : Type 0
  IsInPackedList = (from : ℕ) × (part : List ℕ) × (rule.shape ≡ Numbers) × (entry.content ≡ delimited from part) × PackedFault from part entry.number cause

  -- a fault has one of the forms
  abbrev pub HasForm : Type 0
  HasForm = (((IsOtherType ⊎ IsAgain) ⊎ IsNoText) ⊎ IsOutOfRange) ⊎ IsInPackedList

  form_of : EntryFault rule occurred entry cause → HasForm
  form_of (other_type other is) = inl (inl (inl (inl (other, is))))
  form_of (again singular stands is) = inl (inl (inl (inr (singular, stands, is))))
  form_of (no_text from part shape content not is) = inl (inl (inr (from, part, shape, content, not, is)))
  form_of (out_of_range value at content over is) = inl (inr (value, at, content, over, is))
  form_of (packed from part shape content fault) = inr (from, part, shape, content, fault)

  of_form : HasForm → EntryFault rule occurred entry cause
  of_form (inl (inl (inl (inl f)))) = other_type f.0 f.1
  of_form (inl (inl (inl (inr f)))) = again f.0 f.1 f.2
  of_form (inl (inl (inr f))) = no_text f.0 f.1 f.2 f.3 f.4 f.5
  of_form (inl (inr f)) = out_of_range f.0 f.1 f.2 f.3 f.4
  of_form (inr f) = packed f.0 f.1 f.2 f.3 f.4

  pub fault_by_form : (found : Bool) → (IsTrue found ↔ HasForm) → IsTrue found ↔ EntryFault rule occurred entry cause
  fault_by_form found decides = (λ here. of_form (decides.0 here), λ fault. decides.1 (form_of fault))

  -- a payload that is a text
  pub no_text_there : (from : ℕ) (part : List ℕ) (test : Bool) → rule.shape ≡ Text → entry.content ≡ delimited from part → cause ≡ cause_at NotUtf8 entry.at entry.number
      → (IsTrue test ↔ ¬ IsUtf8 part) → IsTrue test ↔ IsNoText
  no_text_there from part test shape content here decides = (
    λ bad. (from, part, shape, content, decides.0 bad, here),
    λ form.
        let both : delimited from part ≡ delimited form.0 form.1 = sym content ∙ form.3 in
        let same : form.1 ≡ part = cc in
        decides.1 (subst (λ (bytes : List ℕ). ¬ IsUtf8 bytes) same form.4),
  )

  -- a payload that is a packed list
  pub packed_there : (from : ℕ) (part : List ℕ) (test : Bool) → rule.shape ≡ Numbers → entry.content ≡ delimited from part
      → (IsTrue test ↔ PackedFault from part entry.number cause) → IsTrue test ↔ IsInPackedList
  packed_there from part test shape content decides = (
    λ bad. (from, part, shape, content, decides.0 bad),
    λ form.
        let both : delimited from part ≡ delimited form.0 form.1 = sym content ∙ form.3 in
        let places : form.0 ≡ from = cc in
        let parts : form.1 ≡ part = cc in
        decides.1 (subst (λ (place : ℕ). PackedFault place part entry.number cause) places (subst (λ (bytes : List ℕ). PackedFault form.0 bytes entry.number cause) parts form.4)),
  )

-- one of two, where the second is asked if the first isn't so
pub or_then : (first either : Bool) (A B : Type 0) → (IsTrue first ↔ A) → first ≡ true → either ≡ first → IsTrue either ↔ (A ⊎ B)
or_then first either A B decides here is = (λ so. inl (decides.0 here), λ form. is ∙ here)

pub or_else : (first second either : Bool) (A B : Type 0) → (IsTrue first ↔ A) → (IsTrue second ↔ B) → first ≡ false → either ≡ second → IsTrue either ↔ (A ⊎ B)
or_else first second either A B decides other_decides not is = (
  λ so. inr (other_decides.0 (sym is ∙ so)),
  λ form. elim form [ inl a ↦ let both : false ≡ true = sym not ∙ decides.1 a in absurd (cc) | inr b ↦ is ∙ other_decides.1 b ],
)

-- What one more field changes of what a rule requires of the fields after it.
use Rattle.std.proofs.Common.{◌≡◌, ◌≢◌, ◌↔◌, ℕ, suc, ◌+◌, ◌≤◌, ◌==◌, Bool, true, false, List, [], ◌∷◌, length, refl, sym, ap, subst, arith}
use Rattle.std.proofs.lemmas.Bool.{eq-eqb, ne_eqb, cond-true, cond-false}
use Rattle.std.proofs.lemmas.List.Elements.{All-nil, All-cons, All-head, All-tail}
use Rattle.mvt_wire.specs.Field.{Entry}
use Rattle.mvt_wire.specs.Schema.{is_singular, is_required}
use Rattle.mvt_wire.specs.Payload.{fields_of, count_of}
use Rattle.mvt_rules.specs.Tile.{Fits}
use Rattle.mvt_wire.specs.declared.schema.FieldRule.{FieldRule}
use Rattle.mvt_confirm.specs.Calls.Walking.{KeepsRule, KeepsRuleAfter, count_before}

-- a field of the number counts, and no other
count_own : (field_number : ℕ) (entry : Entry) (rest : List Entry) → entry.number ≡ field_number → count_of field_number (entry ∷ rest) ≡ suc (count_of field_number rest)
count_own field_number entry rest own =
    ap length (cond-true (entry.number == field_number) (entry ∷ fields_of field_number rest) (fields_of field_number rest) (eq-eqb entry.number field_number own))

count_other : (field_number : ℕ) (entry : Entry) (rest : List Entry) → entry.number ≢ field_number → count_of field_number (entry ∷ rest) ≡ count_of field_number rest
count_other field_number entry rest other =
    ap length (cond-false (entry.number == field_number) (entry ∷ fields_of field_number rest) (fields_of field_number rest) (ne_eqb entry.number field_number other))

-- a field of the rule's number fits it
abbrev FitsOwn : FieldRule → Entry → Type 0
FitsOwn rule entry = entry.number ≡ rule.number → Fits rule entry.content

-- a field of another number changes nothing
pub other_passed : (rule : FieldRule) (occurred : Bool) (entry : Entry) → entry.number ≢ rule.number → (rest : List Entry) → KeepsRuleAfter rule occurred rest ↔ KeepsRuleAfter rule occurred (entry ∷ rest)
other_passed rule occurred entry other rest =
    let same = count_other rule.number entry rest other in (
      λ kept. record {
        fits = All-cons (FitsOwn rule) entry rest (λ own. absurd (other own)) kept.fits;
        at_most = λ singular. let few = kept.at_most singular in omega arith;
        at_least = λ required. let some = kept.at_least required in omega arith;
      },
      λ kept. record {
        fits = All-tail (FitsOwn rule) entry rest kept.fits;
        at_most = λ singular. let few = kept.at_most singular in omega arith;
        at_least = λ required. let some = kept.at_least required in omega arith;
      },
    )

-- before another field of a number that may stand once, none occurred
few_before : (occurred : Bool) (count : ℕ) → occurred ≡ false → count ≤ 0 → count_before occurred + suc count ≤ 1
few_before true count none few = absurd (cc)
few_before false count none few = omega arith

few_after : (occurred : Bool) (count : ℕ) → count_before occurred + suc count ≤ 1 → (occurred ≡ false) × (1 + count ≤ 1)
few_after true count few = absurd (omega arith)
few_after false count few = (refl, omega arith)

-- a field of the number that may stand here has occurred for those after it
pub own_passed : (rule : FieldRule) (occurred : Bool) (entry : Entry) → entry.number ≡ rule.number → Fits rule entry.content → (is_singular rule.occurrence ≡ true → occurred ≡ false)
    → (rest : List Entry) → KeepsRuleAfter rule true rest ↔ KeepsRuleAfter rule occurred (entry ∷ rest)
own_passed rule occurred entry own fits alone rest =
    let more = count_own rule.number entry rest own in (
      λ kept. record {
        fits = All-cons (FitsOwn rule) entry rest (λ own. fits) kept.fits;
        at_most = λ singular.
            let few = kept.at_most singular in
            subst (λ (n : ℕ). count_before occurred + n ≤ 1) (sym more) (few_before occurred (count_of rule.number rest) (alone singular) (omega arith));
        at_least = λ required. omega arith;
      },
      λ kept. record {
        fits = All-tail (FitsOwn rule) entry rest kept.fits;
        at_most = λ singular. (few_after occurred (count_of rule.number rest) (subst (λ (n : ℕ). count_before occurred + n ≤ 1) more (kept.at_most singular))).1;
        at_least = λ required. omega arith;
      },
    )

-- one that may not stand here is in no list that keeps the rule
pub own_refused : (rule : FieldRule) (occurred : Bool) (entry : Entry) → entry.number ≡ rule.number → ¬ (Fits rule entry.content × (is_singular rule.occurrence ≡ true → occurred ≡ false))
    → (rest : List Entry) → ¬ KeepsRuleAfter rule occurred (entry ∷ rest)
own_refused rule occurred entry own not rest kept =
    let more = count_own rule.number entry rest own in
    not (
      All-head (FitsOwn rule) entry rest kept.fits own,
      λ singular. (few_after occurred (count_of rule.number rest) (subst (λ (n : ℕ). count_before occurred + n ≤ 1) more (kept.at_most singular))).0,
    )

-- at the end a number that has to stand did
pub kept_at_end : (rule : FieldRule) (occurred : Bool) → KeepsRuleAfter rule occurred [] ↔ (is_required rule.occurrence ≡ true → occurred ≡ true)
kept_at_end rule true = (
  λ kept required. refl,
  λ stands. record { fits = All-nil (FitsOwn rule); at_most = λ singular. omega arith; at_least = λ required. omega arith },
)
kept_at_end rule false = (
  λ kept required. let some = kept.at_least required in absurd (omega arith),
  λ stands. record { fits = All-nil (FitsOwn rule); at_most = λ singular. omega arith; at_least = λ required. let bad = stands required in absurd (cc) },
)

-- where none occurred before, the rule is kept
pub kept_from_none : (rule : FieldRule) (entries : List Entry) → KeepsRuleAfter rule false entries ↔ KeepsRule rule entries
kept_from_none rule entries = (
  λ kept. record {
    fits = kept.fits;
    at_most = λ singular. let few = kept.at_most singular in omega arith;
    at_least = λ required. let some = kept.at_least required in omega arith;
  },
  λ kept. record {
    fits = kept.fits;
    at_most = λ singular. let few = kept.at_most singular in omega arith;
    at_least = λ required. let some = kept.at_least required in omega arith;
  },
)

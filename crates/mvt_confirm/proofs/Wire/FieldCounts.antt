-- How many fields of a number there are, and how many that a message knows, one field after others.
use Rattle.std.proofs.Common.{◌≡◌, ℕ, ◌+◌, ◌<◌, ◌≤◌, ◌==◌, ◌≢◌, Bool, true, false, ◌⊎◌, inl, inr, List, [], ◌∷◌, ◌++◌, length, filter, is_some, refl, sym, ◌∙◌, ap, arith, length-append}
use Rattle.std.proofs.lemmas.Bool.{cond-true, cond-false, eq-eqb, ne_eqb}
use Rattle.std.proofs.lemmas.List.Elements.{filter-append}
use Rattle.mvt_wire.specs.Field.{Entry}
use Rattle.mvt_wire.specs.Message.{IsMessage}
use Rattle.mvt_wire.specs.Schema.{rule_of}
use Rattle.mvt_wire.specs.Walk.{Walk, GivesField, FindsDefect}
use Rattle.mvt_wire.specs.Payload.{count_of}
use Rattle.mvt_rules.specs.WireFault.{count_known}
use Rattle.mvt_wire.specs.declared.cause.WireCause.{WireCause}
use Rattle.mvt_wire.specs.declared.schema.Message.{Message}
use Rattle.mvt_wire.proofs.Encoding.Messages.{whole_or_defect}
use Rattle.mvt_wire.proofs.Walking.{IsWalking, IsWalking-more, IsWalking-defect}

-- one more where a test says yes, and the same where it says no
abbrev pub Counts : Bool → ℕ → ℕ → Type 0
Counts test old new = ((test ≡ true) × (new ≡ old + 1)) ⊎ ((test ≡ false) × (new ≡ old))

-- a filter counts so, with one more after a list
counted : (test : Entry → Bool) (entries : List Entry) (entry : Entry) (old new : ℕ) → Counts (test entry) old new → old ≡ length (filter test entries) → new ≡ length (filter test (entries ++ entry ∷ []))
counted test entries entry old new counts so_far =
    let parts : length (filter test (entries ++ entry ∷ [])) ≡ length (filter test entries) + length (filter test (entry ∷ [])) =
    ap length (filter-append test entries (entry ∷ [])) ∙ length-append (filter test entries) (filter test (entry ∷ [])) in
    elim counts [
      | inl own ↦ let one : length (filter test (entry ∷ [])) ≡ 1 = ap length (cond-true (test entry) (entry ∷ []) [] own.0) in omega (arith, own.1)
      | inr other ↦ let none : length (filter test (entry ∷ [])) ≡ 0 = ap length (cond-false (test entry) (entry ∷ []) [] other.0) in omega (arith, other.1)
    ]

-- no more than one is added
few_more : (test : Bool) (old new at next : ℕ) → Counts test old new → old ≤ at → at < next → new ≤ next
few_more test old new at next (inl own) few further = omega (arith, own.1)
few_more test old new at next (inr other) few further = omega (arith, other.1)

-- the last field is of the number, or not
pub of_number-own : (field_number : ℕ) (entries : List Entry) (entry : Entry) → entry.number ≡ field_number → count_of field_number (entries ++ entry ∷ []) ≡ count_of field_number entries + 1
of_number-own field_number entries entry own =
    sym (counted (λ (e : Entry). e.number == field_number) entries entry (count_of field_number entries) (count_of field_number entries + 1) (inl (eq-eqb entry.number field_number own, refl)) refl)

pub of_number-other : (field_number : ℕ) (entries : List Entry) (entry : Entry) → entry.number ≢ field_number → count_of field_number (entries ++ entry ∷ []) ≡ count_of field_number entries
of_number-other field_number entries entry other =
    sym (counted (λ (e : Entry). e.number == field_number) entries entry (count_of field_number entries) (count_of field_number entries) (inr (ne_eqb entry.number field_number other, refl)) refl)

module _ (bytes : List ℕ) (from : ℕ) (message : Message) (field_number : ℕ) where
  -- the fields that were passed are counted
  pub record IsCounting (walk : Walk) (of_number known : ℕ) : Type 0 where
    pub entries : List Entry
    pub walked : IsWalking bytes from walk entries
    pub same_number : of_number ≡ count_of field_number entries
    pub same_known : known ≡ count_known message entries
    pub few_of_number : of_number ≤ walk.at
    pub few_known : known ≤ walk.at

  pub IsCounting-more : (old new : Walk) (of_number known more_of_number more_known : ℕ) (entry : Entry) → IsCounting old of_number known → GivesField old new entry
      → Counts (entry.number == field_number) of_number more_of_number → Counts (is_some (rule_of message entry.number)) known more_known → IsCounting new more_of_number more_known
  IsCounting-more old new of_number known more_of_number more_known entry so_far given numbered rules = record {
    entries = so_far.entries ++ entry ∷ [];
    walked = IsWalking-more bytes from old new so_far.entries entry so_far.walked given;
    same_number = counted (λ (e : Entry). e.number == field_number) so_far.entries entry of_number more_of_number numbered so_far.same_number;
    same_known = counted (λ (e : Entry). is_some (rule_of message e.number)) so_far.entries entry known more_known rules so_far.same_known;
    few_of_number = few_more (entry.number == field_number) of_number more_of_number old.at new.at numbered so_far.few_of_number given.further;
    few_known = few_more (is_some (rule_of message entry.number)) known more_known old.at new.at rules so_far.few_known given.further;
  }

  -- a message with a defect isn't whole
  pub IsCounting-defect : (old new : Walk) (of_number known : ℕ) (defect : WireCause) (entries : List Entry) → IsCounting old of_number known → FindsDefect old new defect → ¬ IsMessage bytes from entries
  IsCounting-defect old new of_number known defect entries so_far finds whole =
      whole_or_defect bytes from entries defect whole (IsWalking-defect bytes from old new so_far.entries defect so_far.walked finds)

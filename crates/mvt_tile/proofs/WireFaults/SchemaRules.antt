-- The rules of a message: each number has one, in ascending order, and all are below 16.
use Rattle.std.proofs.Common.{◌≡◌, ℕ, ◌+◌, ◌<◌, ◌≤◌, ◌==◌, Bool, ◌&&◌, not, if◌then◌else◌, inl, inr, List, [], ◌∷◌, Option, Some, None, sym, ◌∙◌, ap, arith}
use Rattle.std.proofs.lemmas.Bool.{cases_Bool, eqb-true, cond-true, cond-false}
use Rattle.mvt_wire.specs.Schema.{rules_of, rule_of, find_rule, is_required}
use Rattle.mvt_wire.specs.declared.schema.FieldRule.{FieldRule}
use Rattle.mvt_wire.specs.declared.schema.Message.{Message}
use Rattle.mvt_wire.specs.declared.schema.Message.TheVariants.{Tile, Layer, Value, Feature}

-- the rules are about ascending numbers, from one on and below 16
abbrev pub AreAscending : ℕ → List FieldRule → Type 0
AreAscending low [] = Unit {0}
AreAscending low (rule ∷ rules) = (low ≤ rule.number) × (rule.number < 16) × AreAscending (rule.number + 1) rules

pub rules_ascend : (message : Message) → AreAscending 0 (rules_of message)
rules_ascend Tile = (omega arith, omega arith, tt)
rules_ascend Layer = (omega arith, omega arith, (omega arith, omega arith, (omega arith, omega arith, (omega arith, omega arith, (omega arith, omega arith, (omega arith, omega arith, tt))))))
rules_ascend Value = (omega arith, omega arith, (omega arith, omega arith, (omega arith, omega arith, (omega arith, omega arith, (omega arith, omega arith, (omega arith, omega arith, (omega arith, omega arith, tt)))))))
rules_ascend Feature = (omega arith, omega arith, (omega arith, omega arith, (omega arith, omega arith, (omega arith, omega arith, tt))))

-- a rule that is found is about the number
pub found_number : (low : ℕ) (rules : List FieldRule) (field_number : ℕ) (found : FieldRule) → AreAscending low rules → find_rule rules field_number ≡ Some found
    → (found.number ≡ field_number) × (low ≤ field_number) × (field_number < 16)
found_number low [] field_number found ascend is = absurd (cc)
found_number low (rule ∷ rules) field_number found ascend is = elim (cases_Bool (rule.number == field_number)) [
  | inl here ↦
      let first = cond-true (rule.number == field_number) (Some rule) (find_rule rules field_number) here in
      let same : rule ≡ found = let both : Some rule ≡ Some found = sym first ∙ is in cc in
      let number : rule.number ≡ field_number = eqb-true rule.number field_number here in
      (ap (λ (r : FieldRule). r.number) (sym same) ∙ number, omega (arith, ascend.0), omega (arith, ascend.1))
  | inr other ↦
      let following = cond-false (rule.number == field_number) (Some rule) (find_rule rules field_number) other in
      let rest = found_number (rule.number + 1) rules field_number found ascend.2 (sym following ∙ is) in
      (rest.0, omega (arith, ascend.0, rest.1), rest.2)
]

-- the numbers that a message knows
pub known_number : (message : Message) (field_number : ℕ) (rule : FieldRule) → rule_of message field_number ≡ Some rule → (rule.number ≡ field_number) × (field_number < 16)
known_number message field_number rule is = let found = found_number 0 (rules_of message) field_number rule (rules_ascend message) is in (found.0, found.2)

-- a rule requires a number that wasn't seen
abbrev pub lacks : (ℕ → Bool) → FieldRule → Bool
lacks seen rule = is_required rule.occurrence && not (seen rule.number)

-- the first number that a rule requires and that wasn't seen
abbrev pub first_unseen : List FieldRule → (ℕ → Bool) → Option ℕ
first_unseen [] seen = None
first_unseen (rule ∷ rules) seen = if lacks seen rule then Some rule.number else first_unseen rules seen

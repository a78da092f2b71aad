-- A message keeps its schema where it keeps each rule of it.
use Rattle.std.proofs.Common.{◌≡◌, ℕ, ◌≤◌, ◌==◌, inl, inr, List, [], ◌∷◌, All, Some, refl, sym, ◌∙◌, ap, subst}
use Rattle.std.proofs.lemmas.Bool.{cases_eq, eq-eqb, ne_eqb, cond-true, cond-false}
use Rattle.std.proofs.lemmas.List.Elements.{All-nil, All-cons, All-head, All-tail, All-weaker}
use Rattle.mvt_wire.specs.Field.{Entry}
use Rattle.mvt_wire.specs.Schema.{find_rule, rules_of, rule_of}
use Rattle.mvt_rules.specs.Tile.{KeepsSchema}
use Rattle.mvt_wire.specs.Payload.{count_of}
use Rattle.mvt_rules.specs.WireFault.{count_known}
use Rattle.mvt_wire.specs.declared.schema.FieldRule.{FieldRule}
use Rattle.mvt_wire.specs.declared.schema.Message.{Message}
use Rattle.mvt_wire.specs.declared.schema.Message.TheVariants.{Tile, Layer, Value, Feature}
use Rattle.mvt_wire.proofs.Encoding.Messages.{one_list}
use Rattle.mvt_confirm.specs.Calls.Walking.{HoldsFields, KeepsRule}

-- the rule that is found for a number is among the rules, and has the number
rule_found : (P : FieldRule → Type 0) (rules : List FieldRule) (field_number : ℕ) (rule : FieldRule) → find_rule rules field_number ≡ Some rule → All P rules → P rule × (rule.number ≡ field_number)
rule_found P [] field_number rule found all = absurd (cc)
rule_found P (first ∷ rules) field_number rule found all = elim (cases_eq first.number field_number) [
  | inl here ↦
      let is : Some first ≡ Some rule = sym (cond-true (first.number == field_number) (Some first) (find_rule rules field_number) (eq-eqb first.number field_number here)) ∙ found in
      let same : first ≡ rule = cc in
      (subst P same (All-head P first rules all), subst (λ (r : FieldRule). r.number ≡ field_number) same here)
  | inr other ↦
      rule_found P rules field_number rule
      (sym (cond-false (first.number == field_number) (Some first) (find_rule rules field_number) (ne_eqb first.number field_number other)) ∙ found)
      (All-tail P first rules all)
]

-- a rule is the one that its message has for its number
abbrev IsRuleOf : Message → FieldRule → Type 0
IsRuleOf message rule = rule_of message rule.number ≡ Some rule

abbrev AllOf : (FieldRule → Type 0) → List FieldRule → Type 0
AllOf P [] = Unit {0}
AllOf P (rule ∷ rules) = P rule × AllOf P rules

all_of : (P : FieldRule → Type 0) (rules : List FieldRule) → AllOf P rules → All P rules
all_of P [] all = All-nil P
all_of P (rule ∷ rules) all = All-cons P rule rules all.0 (all_of P rules all.1)

rules_found : (message : Message) → All (IsRuleOf message) (rules_of message)
rules_found Tile = all_of (IsRuleOf Tile) (rules_of Tile) (refl, tt)
rules_found Layer = all_of (IsRuleOf Layer) (rules_of Layer) (refl, (refl, (refl, (refl, (refl, (refl, tt))))))
rules_found Value = all_of (IsRuleOf Value) (rules_of Value) (refl, (refl, (refl, (refl, (refl, (refl, (refl, tt)))))))
rules_found Feature = all_of (IsRuleOf Feature) (rules_of Feature) (refl, (refl, (refl, (refl, tt))))

-- each message has a rule
first_rule : (message : Message) → (rule : FieldRule) × (rest : List FieldRule) × (rules_of message ≡ rule ∷ rest)
first_rule Tile = (_, _, refl)
first_rule Layer = (_, _, refl)
first_rule Value = (_, _, refl)
first_rule Feature = (_, _, refl)

-- fields that keep each rule, and are one where they are a value's, keep the schema
schema_kept : (message : Message) (entries : List Entry) → All (λ rule. KeepsRule rule entries) (rules_of message) → (message ≡ Value → count_known Value entries ≡ 1) → KeepsSchema message entries
schema_kept message entries all one =
    let found = λ (field_number : ℕ) (rule : FieldRule) (known : rule_of message field_number ≡ Some rule).
    rule_found (λ (r : FieldRule). KeepsRule r entries) (rules_of message) field_number rule known all in
    record {
      fits = λ k d below rule known. let kept = found _ rule known in kept.0.fits k d below (sym kept.1);
      at_most = λ field_number rule known singular. let kept = found field_number rule known in subst (λ (n : ℕ). count_of n entries ≤ 1) kept.1 (kept.0.at_most singular);
      at_least = λ field_number rule known required. let kept = found field_number rule known in subst (λ (n : ℕ). 1 ≤ count_of n entries) kept.1 (kept.0.at_least required);
      one = λ value. ap (λ (m : Message). count_known m entries) value ∙ one value;
    }

-- and so the other way
rule_kept : (message : Message) (entries : List Entry) → KeepsSchema message entries → (rule : FieldRule) → IsRuleOf message rule → KeepsRule rule entries
rule_kept message entries keeps rule known = record {
  fits = λ k d below own. keeps.fits k d below rule (ap (rule_of message) own ∙ known);
  at_most = λ singular. keeps.at_most rule.number rule known singular;
  at_least = λ required. keeps.at_least rule.number rule known required;
}

-- a message whose walks find each rule kept, and one field where it is a value, keeps the schema
pub schema_by_rules : (message : Message) (bytes : List ℕ) (from : ℕ)
    → All (λ rule. HoldsFields bytes from (KeepsRule rule)) (rules_of message)
    → (message ≡ Value → HoldsFields bytes from (λ entries. count_known Value entries ≡ 1))
    → HoldsFields bytes from (KeepsSchema message)
schema_by_rules message bytes from all one =
    let begins = first_rule message in
    let Held : FieldRule → Type 0 = λ rule. HoldsFields bytes from (KeepsRule rule) in
    let first = All-head Held begins.0 begins.1 (subst (All Held) begins.2 all) in
    record {
      entries = first.entries;
      whole = first.whole;
      have = schema_kept message first.entries
          (All-weaker Held (λ (rule : FieldRule). KeepsRule rule first.entries)
          (λ rule held. subst (KeepsRule rule) (one_list bytes from held.entries first.entries held.whole first.whole) held.have) (rules_of message) all)
          (λ value. let held = one value in subst (λ (es : List Entry). count_known Value es ≡ 1) (one_list bytes from held.entries first.entries held.whole first.whole) held.have);
    }

-- a message that keeps its schema keeps each rule
pub rules_by_schema : (message : Message) (bytes : List ℕ) (from : ℕ) → HoldsFields bytes from (KeepsSchema message) → All (λ rule. HoldsFields bytes from (KeepsRule rule)) (rules_of message)
rules_by_schema message bytes from held =
    All-weaker (IsRuleOf message) (λ (rule : FieldRule). HoldsFields bytes from (KeepsRule rule))
    (λ rule known. record { entries = held.entries; whole = held.whole; have = rule_kept message held.entries held.have rule known }) (rules_of message) (rules_found message)

-- and a value has one known field
pub one_by_schema : (message : Message) (bytes : List ℕ) (from : ℕ) → HoldsFields bytes from (KeepsSchema message) → message ≡ Value → HoldsFields bytes from (λ entries. count_known Value entries ≡ 1)
one_by_schema message bytes from held value =
    record { entries = held.entries; whole = held.whole; have = ap (λ (m : Message). count_known m held.entries) (sym value) ∙ held.have.one value }

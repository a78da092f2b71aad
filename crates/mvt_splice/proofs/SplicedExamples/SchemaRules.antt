-- A message keeps its schema where its fields fit and each of its few rules is kept.
use Rattle.std.proofs.Common.{◌≡◌, ℕ, ◌≤◌, ◌==◌, true, false, inl, inr, List, [], ◌∷◌, All, IsUtf8, Some, sym, ◌∙◌, subst}
use Rattle.std.proofs.lemmas.Bool.{cases_Bool, eqb-true, cond-true, cond-false}
use Rattle.std.proofs.lemmas.Option.{same_Some}
use Rattle.mvt_wire.specs.Field.{varint, delimited, Entry}
use Rattle.mvt_wire.specs.Number.{States, AreSmall}
use Rattle.mvt_wire.specs.Schema.{rule_of, rules_of, find_rule, is_own, is_out_of_range, is_singular, is_required}
use Rattle.mvt_rules.specs.Parts.Fields.{FitsRule}
use Rattle.mvt_rules.specs.Tile.{Fits, KeepsSchema}
use Rattle.mvt_wire.specs.Payload.{count_of}
use Rattle.mvt_wire.specs.declared.schema.FieldRule.{FieldRule}
use Rattle.mvt_wire.specs.declared.schema.Message.{Message}
use Rattle.mvt_wire.specs.declared.schema.Message.TheVariants.{Value}
use Rattle.mvt_wire.specs.declared.schema.Shape.TheVariants.{Text, Numbers}

-- the fields of the rule's number are as many as they may be
abbrev pub IsRuleKept : List Entry → FieldRule → Type 0
IsRuleKept entries rule = (is_singular rule.occurrence ≡ true → count_of rule.number entries ≤ 1) × (is_required rule.occurrence ≡ true → 1 ≤ count_of rule.number entries)

abbrev pub AreRulesKept : List Entry → List FieldRule → Type 0
AreRulesKept entries [] = Unit {0}
AreRulesKept entries (rule ∷ rules) = IsRuleKept entries rule × AreRulesKept entries rules

found_is_kept : (entries : List Entry) (rules : List FieldRule) (n : ℕ) (rule : FieldRule) → find_rule rules n ≡ Some rule → AreRulesKept entries rules → (rule.number ≡ n) × IsRuleKept entries rule
found_is_kept entries [] n rule found kept = absurd (cc)
found_is_kept entries (first ∷ rules) n rule found kept = elim (cases_Bool (first.number == n)) [
  | inl own ↦
      let same : first ≡ rule = same_Some first rule (sym (cond-true (first.number == n) (Some first) (find_rule rules n) own) ∙ found) in
      subst (λ (it : FieldRule). (it.number ≡ n) × IsRuleKept entries it) same (eqb-true first.number n own, kept.0)
  | inr other ↦ found_is_kept entries rules n rule (sym (cond-false (first.number == n) (Some first) (find_rule rules n) other) ∙ found) kept.1
]

pub schema_by_rules : (message : Message) (entries : List Entry) → All (FitsRule message) entries → AreRulesKept entries (rules_of message) → ¬ (message ≡ Value) → KeepsSchema message entries
schema_by_rules message entries fits kept other = record {
  fits = fits;
  at_most = λ n rule known singular.
      let it = found_is_kept entries (rules_of message) n rule known kept in
      subst (λ (k : ℕ). count_of k entries ≤ 1) it.0 (it.1.0 singular);
  at_least = λ n rule known required.
      let it = found_is_kept entries (rules_of message) n rule known kept in
      subst (λ (k : ℕ). 1 ≤ count_of k entries) it.0 (it.1.1 required);
  one = λ value. absurd (other value);
}

-- a field fits by the rule for its number
pub fits_by : (message : Message) (entry : Entry) (rule : FieldRule) → rule_of message entry.number ≡ Some rule → Fits rule entry.content → FitsRule message entry
fits_by message entry rule ruled fits its known = subst (λ (it : FieldRule). Fits it entry.content) (same_Some rule its (sym ruled ∙ known)) fits

pub varint_fits : (rule : FieldRule) (value at : ℕ) → is_own rule.shape 0 ≡ true → is_out_of_range rule.shape value ≡ false → Fits rule (varint value at)
varint_fits rule value at own within = record {
  own = own;
  text = λ from other shape content. absurd (cc);
  in_range = λ n place content. let same : value ≡ n = cc in subst (λ (k : ℕ). is_out_of_range rule.shape k ≡ false) same within;
  packed = λ from other shape content. absurd (cc);
}

pub delimited_fits : (rule : FieldRule) (from : ℕ) (part : List ℕ) → is_own rule.shape 2 ≡ true → (rule.shape ≡ Text → IsUtf8 part) → (rule.shape ≡ Numbers → (numbers : List ℕ) × States (delimited from part) numbers × AreSmall numbers) → Fits rule (delimited from part)
delimited_fits rule from part own text list = record {
  own = own;
  text = λ place other shape content. let same : part ≡ other = cc in subst IsUtf8 same (text shape);
  in_range = λ value at content. absurd (cc);
  packed = λ place other shape content. list shape;
}

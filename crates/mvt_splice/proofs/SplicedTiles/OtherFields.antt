-- Messages whose fields of one number are others, and whose other fields are the same.
use Rattle.std.proofs.Common.{◌≡◌, ◌≢◌, ℕ, ◌≤◌, ◌==◌, not, cond, Bool, true, false, inl, inr, List, [], ◌∷◌, length, map, filter, All, Some, refl, sym, ◌∙◌, ap, subst, arith}
use Rattle.std.proofs.lemmas.Bool.{cases_Bool, cases_eq, both_ways, cond-true, cond-false, eqb-true, ne_eqb, not-false}
use Rattle.std.proofs.lemmas.List.Elements.{All-nil, All-cons, All-head, All-tail}
use Rattle.std.proofs.lemmas.Option.{same_Some}
use Rattle.mvt_wire.specs.Field.{Entry}
use Rattle.mvt_wire.specs.Schema.{rule_of, is_singular, is_required}
use Rattle.mvt_wire.specs.Payload.{fields_of, contents_of, count_of}
use Rattle.mvt_rules.specs.Parts.Fields.{FitsRule}
use Rattle.mvt_rules.specs.Tile.{KeepsSchema}
use Rattle.mvt_wire.specs.declared.schema.FieldRule.{FieldRule}
use Rattle.mvt_wire.specs.declared.schema.Message.{Message}
use Rattle.mvt_wire.specs.declared.schema.Message.TheVariants.{Value}

-- what is left out first doesn't pass later
filtered_twice : {A : Type 0} (test first : A → Bool) → ((x : A) → first x ≡ false → test x ≡ false) → (xs : List A) → filter test (filter first xs) ≡ filter test xs
filtered_twice test first skips [] = refl
filtered_twice {A} test first skips (x ∷ xs) =
    let rest = filtered_twice test first skips xs in
    elim (cases_Bool (first x)) [
      | inl passes ↦ ap (filter test) (cond-true (first x) (x ∷ filter first xs) (filter first xs) passes) ∙ ap (λ (list : List A). cond (test x) (x ∷ list) list) rest
      | inr out ↦
          ap (filter test) (cond-false (first x) (x ∷ filter first xs) (filter first xs) out) ∙ rest ∙ sym (cond-false (test x) (x ∷ filter test xs) (filter test xs) (skips x out))
    ]

-- what is true of those that pass and of those that don't is true of all
pub all_parted : {A : Type 0} (P : A → Type 0) (test : A → Bool) (xs : List A) → All P (filter test xs) → All P (filter (λ (x : A). not (test x)) xs) → All P xs
all_parted P test [] passing others = All-nil P
all_parted {A} P test (x ∷ xs) passing others = elim (cases_Bool (test x)) [
  | inl passes ↦
      let own : All P (x ∷ filter test xs) = subst (All P) (cond-true (test x) (x ∷ filter test xs) (filter test xs) passes) passing in
      let rest : All P (filter (λ (y : A). not (test y)) xs) =
      subst (All P) (cond-false (not (test x)) (x ∷ filter (λ (y : A). not (test y)) xs) (filter (λ (y : A). not (test y)) xs) (ap not passes)) others in
      All-cons P x xs (All-head P x (filter test xs) own) (all_parted P test xs (All-tail P x (filter test xs) own) rest)
  | inr out ↦
      let rest : All P (filter test xs) = subst (All P) (cond-false (test x) (x ∷ filter test xs) (filter test xs) out) passing in
      let own : All P (x ∷ filter (λ (y : A). not (test y)) xs) =
      subst (All P) (cond-true (not (test x)) (x ∷ filter (λ (y : A). not (test y)) xs) (filter (λ (y : A). not (test y)) xs) (ap not out)) others in
      All-cons P x xs (All-head P x (filter (λ (y : A). not (test y)) xs) own) (all_parted P test xs rest (All-tail P x (filter (λ (y : A). not (test y)) xs) own))
]

-- the fields that haven't the number
abbrev pub fields_but : ℕ → List Entry → List Entry
fields_but n entries = filter (λ (e : Entry). not (e.number == n)) entries

-- the fields of every other number are the same
pub same_fields_of : (n k : ℕ) (before after : List Entry) → k ≢ n → fields_but n after ≡ fields_but n before → fields_of k after ≡ fields_of k before
same_fields_of n k before after other same =
    let skips : (e : Entry) → not (e.number == n) ≡ false → (e.number == k) ≡ false =
    λ e out. ne_eqb e.number k (λ here. other (sym here ∙ eqb-true e.number n (not-false (e.number == n) out))) in
    sym (filtered_twice (λ (e : Entry). e.number == k) (λ (e : Entry). not (e.number == n)) skips after)
    ∙ ap (filter (λ (e : Entry). e.number == k)) same
    ∙ filtered_twice (λ (e : Entry). e.number == k) (λ (e : Entry). not (e.number == n)) skips before

pub same_contents_of : (n k : ℕ) (before after : List Entry) → k ≢ n → fields_but n after ≡ fields_but n before → contents_of k after ≡ contents_of k before
same_contents_of n k before after other same = ap (map (λ (e : Entry). e.content)) (same_fields_of n k before after other same)

-- the schema is kept where the fields of a number that may occur several times are others that fit
pub KeepsSchema-but : (message : Message) (n : ℕ) (rule : FieldRule) (before after : List Entry) → rule_of message n ≡ Some rule → is_singular rule.occurrence ≡ false → (is_required rule.occurrence ≡ true → 1 ≤ count_of n after) → ¬ (message ≡ Value)
    → fields_but n after ≡ fields_but n before → All (FitsRule message) after → KeepsSchema message before → KeepsSchema message after
KeepsSchema-but message n rule before after known plural present other same fits keeps = record {
  fits = fits;
  at_most = λ k its its_known singular. elim (cases_eq k n) [
    | inl here ↦
        let one : its ≡ rule = same_Some its rule (sym its_known ∙ ap (rule_of message) here ∙ known) in
        absurd (both_ways (is_singular rule.occurrence) plural (sym (ap (λ (r : FieldRule). is_singular r.occurrence) one) ∙ singular))
    | inr differs ↦
        let count : count_of k after ≡ count_of k before = ap length (same_fields_of n k before after differs same) in
        let few = keeps.at_most k its its_known singular in
        omega arith
  ];
  at_least = λ k its its_known required. elim (cases_eq k n) [
    | inl here ↦
        let one : its ≡ rule = same_Some its rule (sym its_known ∙ ap (rule_of message) here ∙ known) in
        let some = present (sym (ap (λ (r : FieldRule). is_required r.occurrence) one) ∙ required) in
        subst (λ (m : ℕ). 1 ≤ count_of m after) (sym here) some
    | inr differs ↦
        let count : count_of k after ≡ count_of k before = ap length (same_fields_of n k before after differs same) in
        let some = keeps.at_least k its its_known required in
        omega arith
  ];
  one = λ value. absurd (other value);
}

-- What the fields of one number state, in a message that keeps its schema: numbers, texts, and lists of numbers.
use Rattle.std.proofs.Common.{◌≡◌, ℕ, suc, ◌==◌, true, inl, inr, List, [], ◌∷◌, ◌++◌, length, filter_map, All, Some, refl, sym, ◌∙◌, ap, subst, arith}
use Rattle.std.proofs.lemmas.Bool.{cases_Bool, eqb-true}
use Rattle.std.proofs.lemmas.List.{length-map}
use Rattle.std.proofs.lemmas.List.Elements.{All-nil, All-cons, All-head, All-tail, All-weaker}
use Rattle.mvt_wire.specs.Field.{Content, varint, delimited, Entry, wire_type_of}
use Rattle.mvt_wire.specs.Number.{States, StateTogether}
use Rattle.mvt_wire.specs.Schema.{rule_of, is_own, is_singular, is_required}
use Rattle.mvt_wire.specs.Payload.{fields_of, contents_of, number_in, bytes_in, numbers_of, texts_of, count_of}
use Rattle.mvt_rules.specs.Tile.{Fits, KeepsSchema}
use Rattle.mvt_rules.specs.Parts.Fields.{FitsRule}
use Rattle.mvt_wire.specs.declared.schema.FieldRule.{FieldRule}
use Rattle.mvt_wire.specs.declared.schema.Message.{Message}
use Rattle.mvt_wire.specs.declared.schema.Shape.TheVariants.{Numbers}
use Rattle.mvt_wire.proofs.Parts.Contents.{contents_of-own, contents_of-other}

-- the payloads of a known number fit its rule
pub contents_fit : (message : Message) (field_number : ℕ) (rule : FieldRule) (entries : List Entry) → rule_of message field_number ≡ Some rule → All (FitsRule message) entries → All (Fits rule) (contents_of field_number entries)
contents_fit message field_number rule [] known fits = All-nil (Fits rule)
contents_fit message field_number rule (entry ∷ entries) known fits =
    let rest = contents_fit message field_number rule entries known (All-tail (FitsRule message) entry entries fits) in
    elim (cases_Bool (entry.number == field_number)) [
      | inr other ↦ subst (λ (list : List Content). All (Fits rule) list) (sym (contents_of-other field_number entry entries other)) rest
      | inl own ↦
          let here : rule_of message entry.number ≡ Some rule = ap (rule_of message) (eqb-true entry.number field_number own) ∙ known in
          let first : Fits rule entry.content = All-head (FitsRule message) entry entries fits rule here in
          subst (λ (list : List Content). All (Fits rule) list) (sym (contents_of-own field_number entry entries own))
          (All-cons (Fits rule) entry.content (contents_of field_number entries) first rest)
    ]

-- the rule takes this wire type alone
abbrev pub TakesOnly : FieldRule → ℕ → Type 0
TakesOnly rule wire_type = (t : ℕ) → is_own rule.shape t ≡ true → t ≡ wire_type

contents_have_type : (message : Message) (field_number : ℕ) (rule : FieldRule) (wire_type : ℕ) (entries : List Entry) → rule_of message field_number ≡ Some rule → TakesOnly rule wire_type → All (FitsRule message) entries → All (λ (c : Content). wire_type_of c ≡ wire_type) (contents_of field_number entries)
contents_have_type message field_number rule wire_type entries known only fits =
    All-weaker (Fits rule) (λ (c : Content). wire_type_of c ≡ wire_type) (λ c fit. only (wire_type_of c) fit.own) (contents_of field_number entries)
    (contents_fit message field_number rule entries known fits)

-- as many numbers as varints
numbers_count : (contents : List Content) → All (λ (c : Content). wire_type_of c ≡ 0) contents → length (filter_map number_in contents) ≡ length contents
numbers_count [] types = refl
numbers_count (varint value at ∷ contents) types = ap suc (numbers_count contents (All-tail (λ (c : Content). wire_type_of c ≡ 0) (varint value at) contents types))
numbers_count (content ∷ contents) types = let type = All-head (λ (c : Content). wire_type_of c ≡ 0) content contents types in absurd (omega arith)

-- and as many texts as payloads after a length
texts_count : (contents : List Content) → All (λ (c : Content). wire_type_of c ≡ 2) contents → length (filter_map bytes_in contents) ≡ length contents
texts_count [] types = refl
texts_count (delimited from part ∷ contents) types = ap suc (texts_count contents (All-tail (λ (c : Content). wire_type_of c ≡ 2) (delimited from part) contents types))
texts_count (content ∷ contents) types = let type = All-head (λ (c : Content). wire_type_of c ≡ 2) content contents types in absurd (omega arith)

contents_count : (field_number : ℕ) (entries : List Entry) → length (contents_of field_number entries) ≡ count_of field_number entries
contents_count field_number entries = length-map (fields_of field_number entries) (λ (e : Entry). e.content)

-- a list of length one
pub alone_in : {X : Type 0} (xs : List X) → length xs ≡ 1 → (x : X) × (xs ≡ x ∷ [])
alone_in (x ∷ []) size = (x, refl)
alone_in p size = absurd (omega arith)

-- a number that occurs just once
stands_once : (message : Message) (field_number : ℕ) (rule : FieldRule) (entries : List Entry) → KeepsSchema message entries → rule_of message field_number ≡ Some rule → is_singular rule.occurrence ≡ true → is_required rule.occurrence ≡ true → count_of field_number entries ≡ 1
stands_once message field_number rule entries keeps known singular required =
    let most = keeps.at_most field_number rule known singular in
    let least = keeps.at_least field_number rule known required in
    omega arith

-- a varint that occurs just once states one number
pub one_number : (message : Message) (field_number : ℕ) (rule : FieldRule) (entries : List Entry) → KeepsSchema message entries → rule_of message field_number ≡ Some rule → TakesOnly rule 0 → is_singular rule.occurrence ≡ true → is_required rule.occurrence ≡ true
    → (n : ℕ) × (numbers_of field_number entries ≡ n ∷ [])
one_number message field_number rule entries keeps known only singular required =
    let types = contents_have_type message field_number rule 0 entries known only keeps.fits in
    let size = numbers_count (contents_of field_number entries) types ∙ contents_count field_number entries ∙ stands_once message field_number rule entries keeps known singular required in
    alone_in (numbers_of field_number entries) size

-- a payload after a length that occurs just once states one text
pub one_text : (message : Message) (field_number : ℕ) (rule : FieldRule) (entries : List Entry) → KeepsSchema message entries → rule_of message field_number ≡ Some rule → TakesOnly rule 2 → is_singular rule.occurrence ≡ true → is_required rule.occurrence ≡ true
    → (text : List ℕ) × (texts_of field_number entries ≡ text ∷ [])
one_text message field_number rule entries keeps known only singular required =
    let types = contents_have_type message field_number rule 2 entries known only keeps.fits in
    let size = texts_count (contents_of field_number entries) types ∙ contents_count field_number entries ∙ stands_once message field_number rule entries keeps known singular required in
    alone_in (texts_of field_number entries) size

-- a field of numbers states some
stated : (rule : FieldRule) (content : Content) → rule.shape ≡ Numbers → Fits rule content → (numbers : List ℕ) × States content numbers
stated rule (varint value at) shape fits = (value ∷ [], refl)
stated rule (delimited from part) shape fits = let list = fits.packed from part shape refl in (list.0, list.1)
stated rule content shape fits = let own : is_own Numbers (wire_type_of content) ≡ true = ap (λ s. is_own s (wire_type_of content)) (sym shape) ∙ fits.own in absurd (cc)

stated_together : (rule : FieldRule) (contents : List Content) → rule.shape ≡ Numbers → All (Fits rule) contents → (numbers : List ℕ) × StateTogether contents numbers
stated_together rule [] shape fits = ([], refl)
stated_together rule (content ∷ contents) shape fits =
    let first = stated rule content shape (All-head (Fits rule) content contents fits) in
    let rest = stated_together rule contents shape (All-tail (Fits rule) content contents fits) in
    (first.0 ++ rest.0, (first.0, rest.0, first.1, rest.1, refl))

-- the fields of a number of the shape of numbers state some together
pub numbers_stated : (message : Message) (field_number : ℕ) (rule : FieldRule) (entries : List Entry) → KeepsSchema message entries → rule_of message field_number ≡ Some rule → rule.shape ≡ Numbers → (numbers : List ℕ) × StateTogether (contents_of field_number entries) numbers
numbers_stated message field_number rule entries keeps known shape =
    stated_together rule (contents_of field_number entries) shape (contents_fit message field_number rule entries known keeps.fits)

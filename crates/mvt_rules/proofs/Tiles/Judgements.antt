-- The bytes from a place on are a message that keeps its schema, or have a fault.
use Rattle.std.proofs.Common.{◌≡◌, ◌≢◌, ℕ, zero, suc, ◌+◌, ◌<◌, ◌≤◌, ◌==◌, Bool, true, false, ◌⊎◌, inl, inr, List, [], ◌∷◌, ◌++◌, length, All, IsUtf8, Option, Some, None, refl, sym, ◌∙◌, ap, subst, arith, append_assoc, append-nil}
use Rattle.std.specs.Str.{is_utf8}
use Rattle.std.proofs.lemmas.Bool.{cases_Bool, cases_lt, cases_eq, both_ways, ltb-true, ltb-false, eq-eqb, ne_eqb, cond-true, cond-false}
use Rattle.std.proofs.lemmas.List.Elements.{All-nil, All-push}
use Rattle.std.proofs.lemmas.Str.{IsUtf8-from_is_utf8, is_utf8-from_IsUtf8}
use Rattle.mvt_wire.specs.Field.{Content, varint, delimited, Entry, wire_type_of, cause_at}
use Rattle.mvt_wire.specs.Message.{IsMessage}
use Rattle.mvt_wire.specs.Number.{States, AreSmall}
use Rattle.mvt_wire.specs.Schema.{find_rule, rules_of, rule_of, is_own, is_out_of_range, is_singular, is_required}
use Rattle.mvt_rules.specs.Tile.{Fits, KeepsSchema}
use Rattle.mvt_rules.specs.Parts.Fields.{FitsRule}
use Rattle.mvt_wire.specs.Payload.{count_of}
use Rattle.mvt_rules.specs.WireFault.{stands_in, count_known, EntryFault, other_type, again, no_text, out_of_range, packed, FieldFault, EndFault, missing, not_one, MessageFault}
use Rattle.mvt_wire.specs.declared.cause.WireCause.{WireCause}
use Rattle.mvt_wire.specs.declared.cause.WireCode.TheVariants.{OtherType, Again, Missing, OneField, NotUtf8, OutOfRange}
use Rattle.mvt_wire.specs.declared.schema.FieldRule.{FieldRule}
use Rattle.mvt_wire.specs.declared.schema.Message.{Message}
use Rattle.mvt_wire.specs.declared.schema.Message.TheVariants.{Value}
use Rattle.mvt_wire.specs.declared.schema.Shape.{Shape}
use Rattle.mvt_wire.specs.declared.schema.Shape.TheVariants.{Text, Numbers}
use Rattle.mvt_wire.proofs.Encoding.Entries.{entry_at}
use Rattle.mvt_wire.proofs.Encoding.Messages.{one_list, message_or_defect, whole_or_defect}
use Rattle.mvt_wire.proofs.Encoding.PackedLists.{numbers_or_fault}
use Rattle.mvt_rules.proofs.Tiles.Schemas.{count_of-append, KeepsSchema-faultless}

-- a field fits its rule, or has a fault wherever it is
abbrev pub FitsOrFault : FieldRule → Bool → Entry → Type 0
FitsOrFault rule stood entry = Fits rule entry.content ⊎ ((cause : WireCause) × EntryFault rule stood entry cause)

-- a payload that is a varint
varint_fits : (rule : FieldRule) (value at : ℕ) → is_own rule.shape 0 ≡ true → is_out_of_range rule.shape value ≡ false → Fits rule (varint value at)
varint_fits rule value at own within = record {
  own = own;
  text = λ from other shape content. absurd (cc);
  in_range = λ n place content. let same : value ≡ n = cc in subst (λ (k : ℕ). is_out_of_range rule.shape k ≡ false) same within;
  packed = λ from other shape content. absurd (cc);
}

delimited_fits : (rule : FieldRule) (from : ℕ) (part : List ℕ) → is_own rule.shape 2 ≡ true → (rule.shape ≡ Text → IsUtf8 part) → (rule.shape ≡ Numbers → (numbers : List ℕ) × States (delimited from part) numbers × AreSmall numbers) → Fits rule (delimited from part)
delimited_fits rule from part own text list = record {
  own = own;
  text = λ place other shape content. let same : part ≡ other = cc in subst IsUtf8 same (text shape);
  in_range = λ value at content. absurd (cc);
  packed = λ place other shape content. list shape;
}

-- a payload after a length, by the shape that the rule has
delimited_judged : (shape : Shape) (rule : FieldRule) (stood : Bool) (number at from : ℕ) (part : List ℕ) → rule.shape ≡ shape → is_own rule.shape 2 ≡ true → FitsOrFault rule stood (entry_at number at (delimited from part))
delimited_judged Text rule stood number at from part is own = elim (cases_Bool (is_utf8 part)) [
  | inl text ↦ inl (delimited_fits rule from part own (λ shape. IsUtf8-from_is_utf8 part text) (λ shape. absurd (cc)))
  | inr other ↦
      let not : ¬ IsUtf8 part = λ text. both_ways (is_utf8 part) other (is_utf8-from_IsUtf8 part text) in
      inr (cause_at NotUtf8 at number, no_text from part is refl not refl)
]
delimited_judged Numbers rule stood number at from part is own = elim (numbers_or_fault from part number) [
  | inl list ↦ inl (delimited_fits rule from part own (λ shape. absurd (cc)) (λ shape. list))
  | inr fault ↦ inr (fault.0, packed from part is refl fault.1)
]
delimited_judged shape rule stood number at from part is own = inl (delimited_fits rule from part own (λ shape. absurd (cc)) (λ shape. absurd (cc)))

-- a field of the rule's own wire type
own_judged : (rule : FieldRule) (stood : Bool) (number at : ℕ) (content : Content) → is_own rule.shape (wire_type_of content) ≡ true → FitsOrFault rule stood (entry_at number at content)
own_judged rule stood number at (varint value place) own = elim (cases_Bool (is_out_of_range rule.shape value)) [
  | inl over ↦ inr (cause_at OutOfRange place number, out_of_range value place refl over refl)
  | inr within ↦ inl (varint_fits rule value place own within)
]
own_judged rule stood number at (delimited from part) own = delimited_judged rule.shape rule stood number at from part refl own
own_judged rule stood number at content own = inl (record {
  own = own;
  text = λ from other shape content. absurd (cc);
  in_range = λ value at content. absurd (cc);
  packed = λ from other shape content. absurd (cc);
})

field_judged : (rule : FieldRule) (stood : Bool) (entry : Entry) → FitsOrFault rule stood entry
field_judged rule stood entry = elim (cases_Bool (is_own rule.shape (wire_type_of entry.content))) [
  | inl own ↦ own_judged rule stood entry.number entry.at entry.content own
  | inr other ↦ inr (cause_at OtherType entry.at entry.number, other_type other refl)
]

-- each number that may occur once occurs at most once
abbrev pub Sparse : Message → List Entry → Type 0
Sparse message entries = (field_number : ℕ) (rule : FieldRule) → rule_of message field_number ≡ Some rule → is_singular rule.occurrence ≡ true → count_of field_number entries ≤ 1

-- one field is alone, for its own number and for each other one
count_of-one : (field_number : ℕ) (entry : Entry) → entry.number ≡ field_number → count_of field_number (entry ∷ []) ≡ 1
count_of-one field_number entry is = ap length (cond-true (entry.number == field_number) (entry ∷ []) [] (eq-eqb entry.number field_number is))

count_of-none : (field_number : ℕ) (entry : Entry) → (entry.number ≡ field_number → ⊥) → count_of field_number (entry ∷ []) ≡ 0
count_of-none field_number entry other = ap length (cond-false (entry.number == field_number) (entry ∷ []) [] (ne_eqb entry.number field_number other))

-- one more field, of a number that may occur again or occurs for the first time
Sparse-push : (message : Message) (before : List Entry) (entry : Entry) → Sparse message before → ((rule : FieldRule) → rule_of message entry.number ≡ Some rule → is_singular rule.occurrence ≡ true → stands_in entry.number before ≡ false) → Sparse message (before ++ entry ∷ [])
Sparse-push message before entry sparse alone field_number rule known singular =
    let parts = count_of-append field_number before (entry ∷ []) in
    let few = sparse field_number rule known singular in
    elim (cases_eq entry.number field_number) [
      | inr other ↦ let none = count_of-none field_number entry other in omega arith
      | inl own ↦
          let one = count_of-one field_number entry own in
          let first = alone rule (ap (rule_of message) own ∙ known) singular in
          let none : count_of entry.number before ≤ 0 = ltb-false 0 (count_of entry.number before) first in
          let none : count_of field_number before ≤ 0 = subst (λ (n : ℕ). count_of n before ≤ 0) own none in
          omega arith
    ]

-- a number has a rule or none
pub rule_or_none : (o : Option FieldRule) → ((rule : FieldRule) × (o ≡ Some rule)) ⊎ (o ≡ None)
rule_or_none None = inr refl
rule_or_none (Some rule) = inl (rule, refl)

-- what the fields of a message keep, apart from those that are required
abbrev pub FieldsKeep : Message → List Entry → Type 0
FieldsKeep message entries = All (FitsRule message) entries × Sparse message entries

-- one more field keeps what the ones before keep, or has a fault
abbrev pub KeepsOrFault : Message → List Entry → Entry → Type 0
KeepsOrFault message before entry =
    FieldsKeep message (before ++ entry ∷ []) ⊎ ((rule : FieldRule) × (rule_of message entry.number ≡ Some rule) × (cause : WireCause) × EntryFault rule (stands_in entry.number before) entry cause)

unknown_keeps : (message : Message) (before : List Entry) (entry : Entry) → FieldsKeep message before → rule_of message entry.number ≡ None → FieldsKeep message (before ++ entry ∷ [])
unknown_keeps message before entry kept unknown = (
  All-push (FitsRule message) before entry kept.0 (λ rule known. absurd (cc)),
  Sparse-push message before entry kept.1 (λ rule known singular. absurd (cc)),
)

known_keeps : (message : Message) (before : List Entry) (entry : Entry) (rule : FieldRule) → FieldsKeep message before → rule_of message entry.number ≡ Some rule → Fits rule entry.content → (is_singular rule.occurrence ≡ true → stands_in entry.number before ≡ false) → FieldsKeep message (before ++ entry ∷ [])
known_keeps message before entry rule kept known fits alone = (
  All-push (FitsRule message) before entry kept.0 (λ other also. let same : rule ≡ other = cc in subst (λ (r : FieldRule). Fits r entry.content) same fits),
  Sparse-push message before entry kept.1 (λ other also singular. let same : other ≡ rule = cc in alone (subst (λ (r : FieldRule). is_singular r.occurrence ≡ true) same singular)),
)

-- a field of a known number, where it fits its rule
fitting_keeps : (message : Message) (before : List Entry) (entry : Entry) (rule : FieldRule) → FieldsKeep message before → rule_of message entry.number ≡ Some rule → Fits rule entry.content → KeepsOrFault message before entry
fitting_keeps message before entry rule kept known fits = elim (cases_Bool (stands_in entry.number before)) [
  | inr first ↦ inl (known_keeps message before entry rule kept known fits (λ singular. first))
  | inl stood ↦ elim (cases_Bool (is_singular rule.occurrence)) [
    | inl singular ↦ inr (rule, known, cause_at Again entry.at entry.number, again singular stood refl)
    | inr many ↦ inl (known_keeps message before entry rule kept known fits (λ singular. absurd (both_ways (is_singular rule.occurrence) many singular)))
  ]
]

one_more : (message : Message) (before : List Entry) (entry : Entry) → FieldsKeep message before → KeepsOrFault message before entry
one_more message before entry kept = elim (rule_or_none (rule_of message entry.number)) [
  | inr unknown ↦ inl (unknown_keeps message before entry kept unknown)
  | inl known ↦ elim (field_judged known.0 (stands_in entry.number before) entry) [
    | inl fits ↦ fitting_keeps message before entry known.0 kept known.1 fits
    | inr fault ↦ inr (known.0, known.1, fault.0, fault.1)
  ]
]

-- the fields of a list keep their rules, or one has a fault
abbrev pub FieldsJudged : Message → List Entry → Type 0
FieldsJudged message entries = FieldsKeep message entries ⊎ ((cause : WireCause) × FieldFault message entries cause)

fields_from : (message : Message) (entries before after : List Entry) → entries ≡ before ++ after → FieldsKeep message before → FieldsJudged message entries
fields_from message entries before [] split kept = inl (subst (λ (list : List Entry). FieldsKeep message list) (sym (split ∙ append-nil before)) kept)
fields_from message entries before (entry ∷ after) split kept = elim (one_more message before entry kept) [
  | inl keeps ↦ fields_from message entries (before ++ entry ∷ []) after (split ∙ sym (append_assoc before (entry ∷ []) after)) keeps
  | inr fault ↦ inr (fault.2, record { before = before; entry = entry; after = after; split = split; rule = fault.0; known = fault.1; fault = fault.3 })
]

fields_judged : (message : Message) (entries : List Entry) → FieldsJudged message entries
fields_judged message entries = fields_from message entries [] entries refl (All-nil (FitsRule message), λ field_number rule known singular. omega arith)

-- a number with a rule isn't above them all
abbrev pub highest : List FieldRule → ℕ
highest [] = 0
highest (rule ∷ rules) = rule.number + highest rules

rule_within : (rules : List FieldRule) (field_number : ℕ) (rule : FieldRule) → find_rule rules field_number ≡ Some rule → field_number ≤ highest rules
rule_within [] field_number rule found = absurd (cc)
rule_within (first ∷ rules) field_number rule found = elim (cases_eq first.number field_number) [
  | inl here ↦ omega arith
  | inr further ↦
      let rest : find_rule rules field_number ≡ Some rule = sym (cond-false (first.number == field_number) (Some first) (find_rule rules field_number) (ne_eqb first.number field_number further)) ∙ found in
      let within = rule_within rules field_number rule rest in
      omega arith
]

-- each required number below a bound occurs, or one doesn't
abbrev pub Present : Message → List Entry → ℕ → Type 0
Present message entries field_number = (rule : FieldRule) → rule_of message field_number ≡ Some rule → is_required rule.occurrence ≡ true → 1 ≤ count_of field_number entries

abbrev pub PresentOrMissing : Message → List Entry → Type 0 → Type 0
PresentOrMissing message entries Good =
    Good ⊎ ((field_number : ℕ) × (rule : FieldRule) × (rule_of message field_number ≡ Some rule) × (is_required rule.occurrence ≡ true) × (stands_in field_number entries ≡ false))

known_present : (message : Message) (entries : List Entry) (field_number : ℕ) (rule : FieldRule) → rule_of message field_number ≡ Some rule → PresentOrMissing message entries (Present message entries field_number)
known_present message entries field_number rule known = elim (cases_Bool (stands_in field_number entries)) [
  | inl stands ↦ inl (λ other also required. ltb-true 0 (count_of field_number entries) stands)
  | inr none ↦ elim (cases_Bool (is_required rule.occurrence)) [
    | inl required ↦ inr (field_number, rule, known, required, none)
    | inr free ↦ inl (λ other also required.
        let same : other ≡ rule = cc in
        absurd (both_ways (is_required rule.occurrence) free (subst (λ (r : FieldRule). is_required r.occurrence ≡ true) same required)))
  ]
]

one_present : (message : Message) (entries : List Entry) (field_number : ℕ) → PresentOrMissing message entries (Present message entries field_number)
one_present message entries field_number = elim (rule_or_none (rule_of message field_number)) [
  | inl known ↦ known_present message entries field_number known.0 known.1
  | inr unknown ↦ inl (λ rule known required. absurd (cc))
]

present_below : (message : Message) (entries : List Entry) (bound : ℕ) → PresentOrMissing message entries ((field_number : ℕ) → field_number < bound → Present message entries field_number)
present_below message entries zero = inl (λ field_number below. absurd (omega arith))
present_below message entries (suc bound) = elim (present_below message entries bound) [
  | inr lacks ↦ inr lacks
  | inl lower ↦ elim (one_present message entries bound) [
    | inr lacks ↦ inr lacks
    | inl here ↦ inl (λ field_number below. elim (cases_lt field_number bound) [
      | inl less ↦ lower field_number less
      | inr last ↦
          let same : bound ≡ field_number = omega arith in
          subst (λ (n : ℕ). Present message entries n) same here
    ])
  ]
]

-- a value has one known field or not
one_known : (message : Message) (entries : List Entry) → (message ≡ Value → count_known message entries ≡ 1) ⊎ ((message ≡ Value) × (count_known message entries ≢ 1))
one_known Value entries = elim (cases_eq (count_known Value entries) 1) [
  | inl one ↦ inl (λ value. one)
  | inr other ↦ inr (refl, other)
]
one_known message entries = inl (λ value. absurd (cc))

-- a field list keeps the schema of its message, or has a fault
abbrev pub ListJudged : Message → List Entry → ℕ → Type 0
ListJudged message entries end = KeepsSchema message entries ⊎ ((cause : WireCause) × (FieldFault message entries cause ⊎ EndFault message entries end cause))

end_judged : (message : Message) (entries : List Entry) (end : ℕ) → FieldsKeep message entries → ListJudged message entries end
end_judged message entries end kept = elim (present_below message entries (suc (highest (rules_of message)))) [
  | inr lacks ↦ inr (cause_at Missing end lacks.0, inr (missing lacks.0 lacks.1 lacks.2 lacks.3 lacks.4 refl))
  | inl present ↦ elim (one_known message entries) [
    | inr bad ↦ inr (cause_at OneField end 0, inr (not_one bad.0 bad.1 refl))
    | inl one ↦ inl (record {
      fits = kept.0;
      at_most = kept.1;
      at_least = λ field_number rule known required.
          let within = rule_within (rules_of message) field_number rule known in present field_number (omega arith) rule known required;
      one = one;
    })
  ]
]

list_judged : (message : Message) (entries : List Entry) (end : ℕ) → ListJudged message entries end
list_judged message entries end = elim (fields_judged message entries) [
  | inl kept ↦ end_judged message entries end kept
  | inr fault ↦ inr (fault.0, inl fault.1)
]

-- the bytes from a place on are a message that keeps its schema, or have a fault
pub message_judged : (message : Message) (bytes : List ℕ) (from : ℕ) → from ≤ length bytes
    → ((entries : List Entry) × IsMessage bytes from entries × KeepsSchema message entries) ⊎ ((cause : WireCause) × MessageFault message bytes from cause)
message_judged message bytes from within = elim (message_or_defect bytes from within) [
  | inr defect ↦ inr (defect.0, inl defect.1)
  | inl whole ↦ elim (list_judged message whole.0 (length bytes)) [
    | inl keeps ↦ inl (whole.0, whole.1, keeps)
    | inr fault ↦ inr (fault.0, inr (whole.0, whole.1, fault.1))
  ]
]

-- and not both
pub message_or_fault : (message : Message) (bytes : List ℕ) (from : ℕ) (entries : List Entry) (cause : WireCause) → IsMessage bytes from entries → KeepsSchema message entries → MessageFault message bytes from cause → ⊥
message_or_fault message bytes from entries cause whole keeps (inl defect) = whole_or_defect bytes from entries cause whole defect
message_or_fault message bytes from entries cause whole keeps (inr bad) =
    let same : entries ≡ bad.0 = one_list bytes from entries bad.0 whole bad.1 in
    KeepsSchema-faultless message bad.0 (length bytes) cause (subst (λ (list : List Entry). KeepsSchema message list) same keeps) bad.2

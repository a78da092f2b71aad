-- The features and values that spans of a tile hold: one for each that keeps its schema.
use Rattle.std.proofs.Common.{◌≡◌, ℕ, ◌/◌, ◌%◌, ◌==◌, not, Bool, true, false, ◌⊎◌, inl, inr, List, [], ◌∷◌, take, filter, slice_get, All, Some, is_some, ℤ, pos, negsuc, refl, sym, ◌∙◌, ap, subst, arith}
use Rattle.std.specs.Int.{cast_signed, w64}
use Rattle.std.proofs.lemmas.Bool.{cases_eq, eqb-true, ne_eqb, cond-false}
use Rattle.std.proofs.lemmas.List.Elements.{All-head, All-filter, filter_passes}
use Rattle.mvt_wire.specs.Field.{Content, varint, eight_bytes, delimited, four_bytes, Entry, wire_type_of}
use Rattle.mvt_wire.specs.Number.{zigzag, StateTogether}
use Rattle.mvt_wire.specs.Schema.{find_rule, rules_of, rule_of}
use Rattle.mvt_wire.specs.Payload.{contents_of, Span, numbers_of}
use Rattle.mvt_rules.specs.Scope.{IsMessageAt}
use Rattle.mvt_rules.specs.Parts.Fields.{FitsRule}
use Rattle.mvt_rules.specs.Tile.{KeepsSchema, FeatureRecord, IsFeature, ValueRecord, text, float, double, int, uint, sint, truth, Says, says_text, says_float, says_double, says_int, says_uint, says_sint, says_truth, IsValue}
use Rattle.mvt_rules.specs.WireFault.{MessageFault}
use Rattle.mvt_wire.specs.declared.cause.WireCause.{WireCause}
use Rattle.mvt_wire.specs.declared.schema.FieldRule.{FieldRule}
use Rattle.mvt_wire.specs.declared.schema.Message.TheVariants.{Value, Feature}
use Rattle.mvt_wire.specs.declared.schema.Occurrence.TheVariants.{AnyNumber, AtLeastOnce, Once}
use Rattle.mvt_wire.specs.declared.schema.Shape.TheVariants.{GeometryType, Numbers}
use Rattle.mvt_rules.proofs.Tiles.Contents.{alone_in, one_number, numbers_stated}
use Rattle.mvt_wire.proofs.Parts.Contents.{one_joined}
use Rattle.mvt_rules.proofs.Tiles.Judgements.{rule_or_none, message_judged}
use Rattle.mvt_wire.proofs.Encoding.Messages.{one_list}
use Rattle.mvt_rules.proofs.Tiles.Spans.{Within, begins_within}

-- a whole feature that keeps its schema has a record
feature_of_fields : (bytes : List ℕ) (span : Span) (entries : List Entry) → IsMessageAt bytes span entries → KeepsSchema Feature entries → (feature : FeatureRecord) × IsFeature bytes span feature
feature_of_fields bytes span entries whole keeps =
    let tags = numbers_stated Feature 2 (record { number = 2; shape = Numbers; occurrence = AnyNumber }) entries keeps refl refl in
    let kind = one_number Feature 3 (record { number = 3; shape = GeometryType; occurrence = Once }) entries keeps refl (λ t own. eqb-true t 0 own) refl refl in
    let geometry = numbers_stated Feature 4 (record { number = 4; shape = Numbers; occurrence = AtLeastOnce }) entries keeps refl refl in (
      record { id = slice_get (numbers_of 1 entries) 0; tags = tags.0; kind = kind.0; geometry = geometry.0 },
      record { entries = entries; whole = whole; keeps = keeps; id = refl; tags = tags.1; kind = kind.1; geometry = geometry.1 },
    )

-- a span holds a feature, or a fault of one
pub feature_or_fault : (bytes : List ℕ) (span : Span) → Within bytes span
    → ((feature : FeatureRecord) × IsFeature bytes span feature) ⊎ ((cause : WireCause) × MessageFault Feature (take span.to bytes) span.from cause)
feature_or_fault bytes span within = elim (message_judged Feature (take span.to bytes) span.from (begins_within bytes span within)) [
  | inl kept ↦ inl (feature_of_fields bytes span kept.0 kept.1 kept.2)
  | inr fault ↦ inr fault
]

same_feature : (a b : FeatureRecord) → a.id ≡ b.id → a.tags ≡ b.tags → a.kind ≡ b.kind → a.geometry ≡ b.geometry → a ≡ b
same_feature a b ids tags kinds geometries = λ i. record { id = ids i; tags = tags i; kind = kinds i; geometry = geometries i }

-- a span holds one feature
pub one_feature : (bytes : List ℕ) (span : Span) (first second : FeatureRecord) → IsFeature bytes span first → IsFeature bytes span second → first ≡ second
one_feature bytes span first second h k =
    let same : h.entries ≡ k.entries = one_list (take span.to bytes) span.from h.entries k.entries h.whole k.whole in
    let tags : StateTogether (contents_of 2 k.entries) first.tags = subst (λ (es : List Entry). StateTogether (contents_of 2 es) first.tags) same h.tags in
    let kinds : first.kind ∷ [] ≡ second.kind ∷ [] = sym h.kind ∙ ap (λ (es : List Entry). numbers_of 3 es) same ∙ k.kind in
    let geometry : StateTogether (contents_of 4 k.entries) first.geometry = subst (λ (es : List Entry). StateTogether (contents_of 4 es) first.geometry) same h.geometry in
    same_feature first second
    (h.id ∙ ap (λ (es : List Entry). slice_get (numbers_of 1 es) 0) same ∙ sym k.id)
    (one_joined (contents_of 2 k.entries) first.tags second.tags tags k.tags)
    (let kind : first.kind ≡ second.kind = cc in kind)
    (one_joined (contents_of 4 k.entries) first.geometry second.geometry geometry k.geometry)

-- each number is the zigzag of a signed one, and of one alone
zigzag_reaches : (n : ℕ) → (z : ℤ) × (n ≡ zigzag z)
zigzag_reaches n = elim (cases_eq (n % 2) 0) [
  | inl even ↦ (pos (n / 2), omega arith)
  | inr odd ↦ (negsuc (n / 2), omega arith)
]

zigzag_apart : (y z : ℤ) → zigzag y ≡ zigzag z → y ≡ z
zigzag_apart (pos m) (pos n) same = let size : m ≡ n = omega arith in ap pos size
zigzag_apart (negsuc m) (negsuc n) same = let size : m ≡ n = omega arith in ap negsuc size
zigzag_apart y z same = absurd (omega arith)

-- what a payload of a wire type says, by its number
abbrev pub SaysSome : ℕ → Content → Type 0
SaysSome field_number content = (value : ValueRecord) × Says field_number content value

text_said : (n : ℕ) (content : Content) → n ≡ 1 → wire_type_of content ≡ 2 → SaysSome n content
text_said n (delimited from part) here type = (text part, says_text from part here refl refl)
text_said n content here type = absurd (omega arith)

float_said : (n : ℕ) (content : Content) → n ≡ 2 → wire_type_of content ≡ 5 → SaysSome n content
float_said n (four_bytes part) here type = (float part, says_float part here refl refl)
float_said n content here type = absurd (omega arith)

double_said : (n : ℕ) (content : Content) → n ≡ 3 → wire_type_of content ≡ 1 → SaysSome n content
double_said n (eight_bytes part) here type = (double part, says_double part here refl refl)
double_said n content here type = absurd (omega arith)

number_said : (n k at : ℕ) → (n ≡ 4) ⊎ (n ≡ 5) ⊎ (n ≡ 6) ⊎ (n ≡ 7) → SaysSome n (varint k at)
number_said n k at (inl here) = (int (cast_signed w64 k), says_int k at here refl refl)
number_said n k at (inr (inl here)) = (uint k, says_uint k at here refl refl)
number_said n k at (inr (inr (inl here))) =
    let signed = zigzag_reaches k in (sint signed.0, says_sint signed.0 at here (ap (λ (m : ℕ). varint m at) signed.1) refl)
number_said n k at (inr (inr (inr here))) = (truth (not (k == 0)), says_truth k at here refl refl)

varint_said : (n : ℕ) (content : Content) → (n ≡ 4) ⊎ (n ≡ 5) ⊎ (n ≡ 6) ⊎ (n ≡ 7) → wire_type_of content ≡ 0 → SaysSome n content
varint_said n (varint k at) here type = number_said n k at here
varint_said n content here type = absurd (omega arith)

-- the number is one of the rules' numbers
abbrev pub IsOneOf : List FieldRule → ℕ → Type 0
IsOneOf [] field_number = ⊥
IsOneOf (rule ∷ rules) field_number = (field_number ≡ rule.number) ⊎ IsOneOf rules field_number

is_one_of : (rules : List FieldRule) (field_number : ℕ) (rule : FieldRule) → find_rule rules field_number ≡ Some rule → IsOneOf rules field_number
is_one_of [] field_number rule found = absurd (cc)
is_one_of (first ∷ rules) field_number rule found = elim (cases_eq field_number first.number) [
  | inl here ↦ inl here
  | inr further ↦
      let other : (first.number == field_number) ≡ false = ne_eqb first.number field_number (λ same. further (sym same)) in
      inr (is_one_of rules field_number rule (sym (cond-false (first.number == field_number) (Some first) (find_rule rules field_number) other) ∙ found))
]

-- a known field of a value says something
known_says : (entry : Entry) → FitsRule Value entry → IsOneOf (rules_of Value) entry.number → SaysSome entry.number entry.content
known_says entry fits (inl here) = text_said entry.number entry.content here (eqb-true (wire_type_of entry.content) 2 (fits _ (ap (rule_of Value) here)).own)
known_says entry fits (inr (inl here)) = float_said entry.number entry.content here (eqb-true (wire_type_of entry.content) 5 (fits _ (ap (rule_of Value) here)).own)
known_says entry fits (inr (inr (inl here))) = double_said entry.number entry.content here (eqb-true (wire_type_of entry.content) 1 (fits _ (ap (rule_of Value) here)).own)
known_says entry fits (inr (inr (inr (inl here)))) = varint_said entry.number entry.content (inl here) (eqb-true (wire_type_of entry.content) 0 (fits _ (ap (rule_of Value) here)).own)
known_says entry fits (inr (inr (inr (inr (inl here))))) = varint_said entry.number entry.content (inr (inl here)) (eqb-true (wire_type_of entry.content) 0 (fits _ (ap (rule_of Value) here)).own)
known_says entry fits (inr (inr (inr (inr (inr (inl here)))))) = varint_said entry.number entry.content (inr (inr (inl here))) (eqb-true (wire_type_of entry.content) 0 (fits _ (ap (rule_of Value) here)).own)
known_says entry fits (inr (inr (inr (inr (inr (inr (inl here))))))) = varint_said entry.number entry.content (inr (inr (inr here))) (eqb-true (wire_type_of entry.content) 0 (fits _ (ap (rule_of Value) here)).own)
known_says entry fits (inr (inr (inr (inr (inr (inr (inr none))))))) = absurd none

-- the known fields of a value
abbrev pub is_known : Entry → Bool
is_known entry = is_some (rule_of Value entry.number)

entry_says : (entry : Entry) → FitsRule Value entry → is_known entry ≡ true → SaysSome entry.number entry.content
entry_says entry fits known = elim (rule_or_none (rule_of Value entry.number)) [
  | inl rule ↦ known_says entry fits (is_one_of (rules_of Value) entry.number rule.0 rule.1)
  | inr none ↦ let unknown : is_known entry ≡ false = ap is_some none in absurd (cc)
]

-- a whole value that keeps its schema has a record
value_of_fields : (bytes : List ℕ) (span : Span) (entries : List Entry) → IsMessageAt bytes span entries → KeepsSchema Value entries → (value : ValueRecord) × IsValue bytes span value
value_of_fields bytes span entries whole keeps =
    let alone = alone_in (filter is_known entries) (keeps.one refl) in
    let fit = All-head (FitsRule Value) alone.0 [] (subst (λ (list : List Entry). All (FitsRule Value) list) alone.1 (All-filter is_known (FitsRule Value) entries keeps.fits)) in
    let passes = All-head (λ (e : Entry). is_known e ≡ true) alone.0 [] (subst (λ (list : List Entry). All (λ (e : Entry). is_known e ≡ true) list) alone.1 (filter_passes is_known entries)) in
    let said = entry_says alone.0 fit passes in
    (said.0, record { entries = entries; whole = whole; keeps = keeps; entry = alone.0; known = alone.1; says = said.1 })

-- a span holds a value, or a fault of one
pub value_or_fault : (bytes : List ℕ) (span : Span) → Within bytes span
    → ((value : ValueRecord) × IsValue bytes span value) ⊎ ((cause : WireCause) × MessageFault Value (take span.to bytes) span.from cause)
value_or_fault bytes span within = elim (message_judged Value (take span.to bytes) span.from (begins_within bytes span within)) [
  | inl kept ↦ inl (value_of_fields bytes span kept.0 kept.1 kept.2)
  | inr fault ↦ inr fault
]

-- the number that a field has by what it says
abbrev pub number_by : (n : ℕ) (content : Content) (value : ValueRecord) → Says n content value → ℕ
number_by n content value (says_text from part here c is) = 1
number_by n content value (says_float part here c is) = 2
number_by n content value (says_double part here c is) = 3
number_by n content value (says_int k at here c is) = 4
number_by n content value (says_uint k at here c is) = 5
number_by n content value (says_sint z at here c is) = 6
number_by n content value (says_truth k at here c is) = 7

number_by_is : (n : ℕ) (content : Content) (value : ValueRecord) (says : Says n content value) → n ≡ number_by n content value says
number_by_is n content value (says_text from part here c is) = here
number_by_is n content value (says_float part here c is) = here
number_by_is n content value (says_double part here c is) = here
number_by_is n content value (says_int k at here c is) = here
number_by_is n content value (says_uint k at here c is) = here
number_by_is n content value (says_sint z at here c is) = here
number_by_is n content value (says_truth k at here c is) = here

-- a field says one thing
one_said : (n : ℕ) (content : Content) (first second : ValueRecord) → Says n content first → Says n content second → first ≡ second
one_said n content first second (says_text f p here c is) (says_text g q there d also) = cc
one_said n content first second (says_float p here c is) (says_float q there d also) = cc
one_said n content first second (says_double p here c is) (says_double q there d also) = cc
one_said n content first second (says_int k at here c is) (says_int m place there d also) = cc
one_said n content first second (says_uint k at here c is) (says_uint m place there d also) = cc
one_said n content first second (says_sint y at here c is) (says_sint z place there d also) =
    let numbers : zigzag y ≡ zigzag z = cc in is ∙ ap sint (zigzag_apart y z numbers) ∙ sym also
one_said n content first second (says_truth k at here c is) (says_truth m place there d also) = cc
one_said n content first second a b =
    let same : number_by n content first a ≡ number_by n content second b = sym (number_by_is n content first a) ∙ number_by_is n content second b in
    absurd (omega arith)

-- a span holds one value
pub one_value_record : (bytes : List ℕ) (span : Span) (first second : ValueRecord) → IsValue bytes span first → IsValue bytes span second → first ≡ second
one_value_record bytes span first second h k =
    let same : h.entries ≡ k.entries = one_list (take span.to bytes) span.from h.entries k.entries h.whole k.whole in
    let fields : h.entry ∷ [] ≡ k.entry ∷ [] = sym h.known ∙ ap (filter is_known) same ∙ k.known in
    let entries : h.entry ≡ k.entry = cc in
    one_said k.entry.number k.entry.content first second (subst (λ (e : Entry). Says e.number e.content first) entries h.says) k.says

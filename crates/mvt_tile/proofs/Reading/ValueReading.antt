-- The one known field of a value is read.
use Rattle.std.proofs.Common.{◌≡◌, ℕ, Bool, true, false, cond, not, ◌==◌, List, [], ◌∷◌, ◌++◌, filter, is_some, Some, ℤ, refl, sym, ◌∙◌, ap, subst}
use Rattle.std.proofs.lemmas.List.Elements.{filter-append}
use Rattle.std.specs.Option.{option_map}
use Rattle.std.specs.Int.{cast_signed, w64}
use Rattle.mvt_wire.specs.Field.{Content, varint, eight_bytes, delimited, four_bytes, Entry}
use Rattle.mvt_wire.specs.Schema.{rule_of}
use Rattle.mvt_wire.specs.Payload.{Span, number_in, bytes_in}
use Rattle.mvt_rules.specs.Tile.{ValueRecord, int, truth, Says, says_int, says_truth, IsValue}
use Rattle.mvt_wire.specs.declared.schema.Message.TheVariants.{Value}

-- the message knows the field's number
abbrev pub is_known : Entry → Bool
is_known entry = is_some (rule_of Value entry.number)

-- bytes that are read are those after a length
pub delimited_from : (content : Content) (part : List ℕ) → bytes_in content ≡ Some part → (from : ℕ) × (content ≡ delimited from part)
delimited_from (varint value at) part told = absurd (cc)
delimited_from (eight_bytes bytes) part told = absurd (cc)
delimited_from (delimited from bytes) part told = (from, cc)
delimited_from (four_bytes bytes) part told = absurd (cc)

-- what a field says, by its number
pub says_by_int : (n : ℕ) (content : Content) (z : ℤ) → n ≡ 4 → option_map (cast_signed w64) (number_in content) ≡ Some z → Says n content (int z)
says_by_int n (varint value at) z is told = says_int value at is refl (ap int cc)
says_by_int n (eight_bytes part) z is told = absurd (cc)
says_by_int n (delimited from part) z is told = absurd (cc)
says_by_int n (four_bytes part) z is told = absurd (cc)

pub says_by_truth : (n : ℕ) (content : Content) (b : Bool) → n ≡ 7 → option_map (λ value. not (value == 0)) (number_in content) ≡ Some b → Says n content (truth b)
says_by_truth n (varint value at) b is told = says_truth value at is refl (ap truth cc)
says_by_truth n (eight_bytes part) b is told = absurd (cc)
says_by_truth n (delimited from part) b is told = absurd (cc)
says_by_truth n (four_bytes part) b is told = absurd (cc)

-- a known field after unknown ones is the first that is known
first_known : (front rest : List Entry) (entry known : Entry) → filter is_known front ≡ [] → is_known entry ≡ true
    → filter is_known ((front ++ entry ∷ []) ++ rest) ≡ known ∷ [] → entry ≡ known
first_known front rest entry known none test one =
    let parts : filter is_known ((front ++ entry ∷ []) ++ rest) ≡ (filter is_known front ++ filter is_known (entry ∷ [])) ++ filter is_known rest =
    filter-append is_known (front ++ entry ∷ []) rest ∙ ap (λ (xs : List Entry). xs ++ filter is_known rest) (filter-append is_known front (entry ∷ [])) in
    let alone : filter is_known (entry ∷ []) ≡ entry ∷ [] = ap (λ (t : Bool). cond t (entry ∷ []) []) test in
    let lists : entry ∷ filter is_known rest ≡ known ∷ [] =
    sym (ap (λ (xs : List Entry). (xs ++ filter is_known (entry ∷ [])) ++ filter is_known rest) none ∙ ap (λ (xs : List Entry). xs ++ filter is_known rest) alone)
    ∙ sym parts ∙ one in
    cc

-- and its value is the one that is there
pub IsValue-from_known : {bytes : List ℕ} {span : Span} {value told : ValueRecord} (is : IsValue bytes span value) (front rest : List Entry) (entry : Entry)
    → filter is_known front ≡ [] → is_known entry ≡ true → is.entries ≡ (front ++ entry ∷ []) ++ rest
    → Says entry.number entry.content told → IsValue bytes span told
IsValue-from_known {told = told} is front rest entry none test split says =
    let same : entry ≡ is.entry = first_known front rest entry is.entry none test (ap (filter is_known) (sym split) ∙ is.known) in
    record {
      entries = is.entries;
      whole = is.whole;
      keeps = is.keeps;
      entry = is.entry;
      known = is.known;
      says = subst (λ (e : Entry). Says e.number e.content told) same says;
    }

-- an unknown field leaves none known
pub none_known-more : (front : List Entry) (entry : Entry) → filter is_known front ≡ [] → is_known entry ≡ false → filter is_known (front ++ entry ∷ []) ≡ []
none_known-more front entry none test =
    filter-append is_known front (entry ∷ []) ∙ ap (λ (xs : List Entry). xs ++ filter is_known (entry ∷ [])) none
    ∙ ap (λ (t : Bool). cond t (entry ∷ []) []) test

-- a value has a known field
pub none_known-over : {bytes : List ℕ} {span : Span} {value : ValueRecord} {entries : List Entry} (is : IsValue bytes span value) → filter is_known entries ≡ [] → entries ≡ is.entries → ⊥
none_known-over is none all =
    let lists : [] ≡ is.entry ∷ [] = sym none ∙ ap (filter is_known) all ∙ is.known in
    absurd (cc)

-- Messages of the same fields, wherever they lie: they keep the same schema, and state the same numbers and texts.
use Rattle.std.proofs.Common.{◌≡◌, ℕ, ◌+◌, ◌==◌, Bool, List, [], ◌∷◌, map, filter, All, Some, is_some, refl, sym, ◌∙◌, ap, subst, arith}
use Rattle.std.proofs.lemmas.List.Elements.{All-nil, All-cons, All-head, All-tail}
use Rattle.mvt_wire.specs.Field.{Content, varint, eight_bytes, delimited, four_bytes, Entry, wire_type_of}
use Rattle.mvt_wire.specs.Message.{content_moved, entry_moved}
use Rattle.mvt_wire.specs.Number.{States, StateTogether}
use Rattle.mvt_wire.specs.Schema.{rule_of, is_own}
use Rattle.mvt_wire.specs.Payload.{fields_of, contents_of, number_in, bytes_in, numbers_of, texts_of, count_of}
use Rattle.mvt_rules.specs.Parts.Fields.{FitsRule}
use Rattle.mvt_rules.specs.Tile.{Each, Fits, KeepsSchema, Says, says_text, says_float, says_double, says_int, says_uint, says_sint, says_truth, ValueRecord}
use Rattle.mvt_rules.specs.WireFault.{count_known}
use Rattle.mvt_wire.specs.declared.schema.FieldRule.{FieldRule}
use Rattle.mvt_wire.specs.declared.schema.Message.{Message}
use Rattle.mvt_rules.proofs.Tiles.PairedLists.{same_length}
use Rattle.mvt_splice.proofs.SplicedTiles.PairedFields.{each_filtered, each_mapped, same_picked}

-- two payloads are the same, wherever they lie
abbrev pub IsSamePayload : Content → Content → Type 0
IsSamePayload (varint value at) after = (place : ℕ) × (after ≡ varint value place)
IsSamePayload (eight_bytes part) after = after ≡ eight_bytes part
IsSamePayload (delimited from part) after = (place : ℕ) × (after ≡ delimited place part)
IsSamePayload (four_bytes part) after = after ≡ four_bytes part

-- two fields are the same, wherever they lie
pub record IsSameField (before after : Entry) : Type 0 where
  pub number : after.number ≡ before.number
  pub payload : IsSamePayload before.content after.content

-- Payloads

pub payload_moved : (by other : ℕ) (content : Content) → IsSamePayload (content_moved by content) (content_moved other content)
payload_moved by other (varint value at) = (other + at, refl)
payload_moved by other (eight_bytes part) = refl
payload_moved by other (delimited from part) = (other + from, refl)
payload_moved by other (four_bytes part) = refl

pub payload_first_moved : (by : ℕ) (content : Content) → IsSamePayload content (content_moved by content)
payload_first_moved by (varint value at) = (by + at, refl)
payload_first_moved by (eight_bytes part) = refl
payload_first_moved by (delimited from part) = (by + from, refl)
payload_first_moved by (four_bytes part) = refl

pub payload_back : (before after : Content) → IsSamePayload before after → IsSamePayload after before
payload_back (varint value at) after same = subst (λ (c : Content). IsSamePayload c (varint value at)) (sym same.1) (at, refl)
payload_back (eight_bytes part) after same = subst (λ (c : Content). IsSamePayload c (eight_bytes part)) (sym same) refl
payload_back (delimited from part) after same = subst (λ (c : Content). IsSamePayload c (delimited from part)) (sym same.1) (from, refl)
payload_back (four_bytes part) after same = subst (λ (c : Content). IsSamePayload c (four_bytes part)) (sym same) refl

-- the wire type, the number, the bytes and the stated numbers
pub same_type : (before after : Content) → IsSamePayload before after → wire_type_of after ≡ wire_type_of before
same_type (varint value at) after same = ap wire_type_of same.1
same_type (eight_bytes part) after same = ap wire_type_of same
same_type (delimited from part) after same = ap wire_type_of same.1
same_type (four_bytes part) after same = ap wire_type_of same

pub same_number : (before after : Content) → IsSamePayload before after → number_in after ≡ number_in before
same_number (varint value at) after same = ap number_in same.1
same_number (eight_bytes part) after same = ap number_in same
same_number (delimited from part) after same = ap number_in same.1
same_number (four_bytes part) after same = ap number_in same

pub same_bytes : (before after : Content) → IsSamePayload before after → bytes_in after ≡ bytes_in before
same_bytes (varint value at) after same = ap bytes_in same.1
same_bytes (eight_bytes part) after same = ap bytes_in same
same_bytes (delimited from part) after same = ap bytes_in same.1
same_bytes (four_bytes part) after same = ap bytes_in same

pub States-same : (before after : Content) (numbers : List ℕ) → IsSamePayload before after → States before numbers → States after numbers
States-same (varint value at) after numbers same states = subst (λ (c : Content). States c numbers) (sym same.1) states
States-same (eight_bytes part) after numbers same states = absurd states
States-same (delimited from part) after numbers same states = subst (λ (c : Content). States c numbers) (sym same.1) states
States-same (four_bytes part) after numbers same states = absurd states

varint_by_number : (content : Content) (value : ℕ) → number_in content ≡ Some value → (at : ℕ) × (content ≡ varint value at)
varint_by_number (varint n at) value is = let same : n ≡ value = cc in (at, ap (λ (k : ℕ). varint k at) same)
varint_by_number content value is = absurd (cc)

delimited_by_bytes : (content : Content) (part : List ℕ) → bytes_in content ≡ Some part → (from : ℕ) × (content ≡ delimited from part)
delimited_by_bytes (delimited from list) part is = let same : list ≡ part = cc in (from, ap (delimited from) same)
delimited_by_bytes content part is = absurd (cc)

-- the same payload fits the same rule
pub Fits-same : (rule : FieldRule) (before after : Content) → IsSamePayload before after → Fits rule before → Fits rule after
Fits-same rule before after same fits = record {
  own = ap (is_own rule.shape) (same_type before after same) ∙ fits.own;
  text = λ from part shape is.
      let old = delimited_by_bytes before part (sym (same_bytes before after same) ∙ ap bytes_in is) in
      fits.text old.0 part shape old.1;
  in_range = λ value at is.
      let old = varint_by_number before value (sym (same_number before after same) ∙ ap number_in is) in
      fits.in_range value old.0 old.1;
  packed = λ from part shape is.
      let old = delimited_by_bytes before part (sym (same_bytes before after same) ∙ ap bytes_in is) in
      let list = fits.packed old.0 part shape old.1 in
      (list.0, States-same before after list.0 same list.1, list.2);
}

-- and says the same of a value
pub Says-same : (n : ℕ) (before after : Content) (value : ValueRecord) → IsSamePayload before after → Says n before value → Says n after value
Says-same n before after value same (says_text from part here is said) =
    let new : IsSamePayload (delimited from part) after = subst (λ (c : Content). IsSamePayload c after) is same in says_text new.0 part here new.1 said
Says-same n before after value same (says_float part here is said) =
    let new : IsSamePayload (four_bytes part) after = subst (λ (c : Content). IsSamePayload c after) is same in says_float part here new said
Says-same n before after value same (says_double part here is said) =
    let new : IsSamePayload (eight_bytes part) after = subst (λ (c : Content). IsSamePayload c after) is same in says_double part here new said
Says-same n before after value same (says_int k at here is said) =
    let new : IsSamePayload (varint k at) after = subst (λ (c : Content). IsSamePayload c after) is same in says_int k new.0 here new.1 said
Says-same n before after value same (says_uint k at here is said) =
    let new : IsSamePayload (varint k at) after = subst (λ (c : Content). IsSamePayload c after) is same in says_uint k new.0 here new.1 said
Says-same n before after value same (says_sint z at here is said) =
    let new = subst (λ (c : Content). IsSamePayload c after) is same in says_sint z new.0 here new.1 said
Says-same n before after value same (says_truth k at here is said) =
    let new : IsSamePayload (varint k at) after = subst (λ (c : Content). IsSamePayload c after) is same in says_truth k new.0 here new.1 said

-- Fields

pub field_moved : (by other : ℕ) (entry : Entry) → IsSameField (entry_moved by entry) (entry_moved other entry)
field_moved by other entry = record { number = refl; payload = payload_moved by other entry.content }

pub field_first_moved : (by : ℕ) (entry : Entry) → IsSameField entry (entry_moved by entry)
field_first_moved by entry = record { number = refl; payload = payload_first_moved by entry.content }

pub field_back : (before after : Entry) → IsSameField before after → IsSameField after before
field_back before after same = record { number = sym same.number; payload = payload_back before.content after.content same.payload }

pub FitsRule-same : (message : Message) (before after : Entry) → IsSameField before after → FitsRule message before → FitsRule message after
FitsRule-same message before after same fits rule known =
    Fits-same rule before.content after.content same.payload (fits rule (ap (rule_of message) (sym same.number) ∙ known))

-- Lists of fields

pub fields_moved : (by other : ℕ) (entries : List Entry) → Each IsSameField (map (entry_moved by) entries) (map (entry_moved other) entries)
fields_moved by other [] = tt
fields_moved by other (entry ∷ entries) = (field_moved by other entry, fields_moved by other entries)

pub fields_first_moved : (by : ℕ) (entries : List Entry) → Each IsSameField entries (map (entry_moved by) entries)
fields_first_moved by [] = tt
fields_first_moved by (entry ∷ entries) = (field_first_moved by entry, fields_first_moved by entries)

-- a test of the number alone
pub same_filtered : (test : ℕ → Bool) (before after : List Entry) → Each IsSameField before after → Each IsSameField (filter (λ (e : Entry). test e.number) before) (filter (λ (e : Entry). test e.number) after)
same_filtered test before after each =
    each_filtered IsSameField (λ (e : Entry). test e.number) (λ x y same. ap test same.number) before after each

pub same_contents : (n : ℕ) (before after : List Entry) → Each IsSameField before after → Each IsSamePayload (contents_of n before) (contents_of n after)
same_contents n before after each =
    each_mapped IsSameField IsSamePayload (λ (e : Entry). e.content) (λ (e : Entry). e.content) (λ x y same. same.payload) (fields_of n before) (fields_of n after)
    (same_filtered (λ (k : ℕ). k == n) before after each)

pub same_numbers : (n : ℕ) (before after : List Entry) → Each IsSamePayload (contents_of n before) (contents_of n after) → numbers_of n after ≡ numbers_of n before
same_numbers n before after each = same_picked IsSamePayload number_in number_in same_number (contents_of n before) (contents_of n after) each

pub same_texts : (n : ℕ) (before after : List Entry) → Each IsSamePayload (contents_of n before) (contents_of n after) → texts_of n after ≡ texts_of n before
same_texts n before after each = same_picked IsSamePayload bytes_in bytes_in same_bytes (contents_of n before) (contents_of n after) each

pub StateTogether-same : (before after : List Content) (numbers : List ℕ) → Each IsSamePayload before after → StateTogether before numbers → StateTogether after numbers
StateTogether-same [] [] numbers each states = states
StateTogether-same (x ∷ xs) (y ∷ ys) numbers each states =
    (states.0, states.1, States-same x y states.0 each.0 states.2, StateTogether-same xs ys states.1 each.1 states.3, states.4)
StateTogether-same p q numbers each states = absurd each

pub same_count : (n : ℕ) (before after : List Entry) → Each IsSameField before after → count_of n after ≡ count_of n before
same_count n before after each =
    sym (same_length IsSameField (fields_of n before) (fields_of n after) (same_filtered (λ (k : ℕ). k == n) before after each))

same_known : (message : Message) (before after : List Entry) → Each IsSameField before after → count_known message after ≡ count_known message before
same_known message before after each =
    sym (same_length IsSameField (filter (λ (e : Entry). is_some (rule_of message e.number)) before) (filter (λ (e : Entry). is_some (rule_of message e.number)) after)
    (same_filtered (λ (k : ℕ). is_some (rule_of message k)) before after each))

pub all_fit : (message : Message) (before after : List Entry) → Each IsSameField before after → All (FitsRule message) before → All (FitsRule message) after
all_fit message [] [] each fits = All-nil (FitsRule message)
all_fit message (x ∷ xs) (y ∷ ys) each fits =
    All-cons (FitsRule message) y ys (FitsRule-same message x y each.0 (All-head (FitsRule message) x xs fits)) (all_fit message xs ys each.1 (All-tail (FitsRule message) x xs fits))
all_fit message p q each fits = absurd each

-- the same fields keep the same schema
pub KeepsSchema-same : (message : Message) (before after : List Entry) → Each IsSameField before after → KeepsSchema message before → KeepsSchema message after
KeepsSchema-same message before after each keeps = record {
  fits = all_fit message before after each keeps.fits;
  at_most = λ n rule known singular. let same = same_count n before after each in let few = keeps.at_most n rule known singular in omega arith;
  at_least = λ n rule known required. let same = same_count n before after each in let some = keeps.at_least n rule known required in omega arith;
  one = λ value. same_known message before after each ∙ keeps.one value;
}

-- A number that occurs at most once in a message is all that the fields of its number state.
use Rattle.std.proofs.Common.{◌≡◌, ℕ, ◌≤◌, ◌<◌, ◌^◌, List, [], ◌∷◌, length, filter_map, All, Option, Some, None, true, false, slice_get, refl, sym, ap, subst, arith}
use Rattle.std.proofs.lemmas.List.{length-map}
use Rattle.std.proofs.lemmas.List.Elements.{All-nil, All-cons, All-head}
use Rattle.mvt_wire.specs.Field.{Content, varint, eight_bytes, delimited, four_bytes, Entry}
use Rattle.mvt_wire.specs.Message.{IsMessage}
use Rattle.mvt_wire.specs.Number.{StateTogether, AreSmall}
use Rattle.mvt_wire.specs.Numbers.{NumberWalk, NumbersEnd, NumbersLeft}
use Rattle.mvt_wire.specs.Schema.{rule_of, is_out_of_range, is_singular}
use Rattle.mvt_wire.specs.Payload.{contents_of, fields_of, number_in, numbers_of}
use Rattle.mvt_rules.specs.Tile.{Fits, KeepsSchema}
use Rattle.mvt_wire.specs.declared.schema.FieldRule.{FieldRule}
use Rattle.mvt_wire.specs.declared.schema.Message.{Message}
use Rattle.mvt_confirm.specs.Calls.Numbers.{TakesNumber}
use Rattle.mvt_rules.proofs.Tiles.Contents.{contents_fit}

-- the rule takes numbers of 32 bits alone
abbrev pub TakesSmall : FieldRule → Type 0
TakesSmall rule = (value : ℕ) → is_out_of_range rule.shape value ≡ false → value < 2 ^ 32

-- a varint alone states its number
varint_states : (rule : FieldRule) (contents : List Content) (n : ℕ) → TakesSmall rule → length contents ≤ 1 → All (Fits rule) contents
    → filter_map number_in contents ≡ n ∷ [] → StateTogether contents (n ∷ []) × AreSmall (n ∷ [])
varint_states rule [] n small few fit one = absurd (cc)
varint_states rule (varint value at ∷ []) n small few fit one =
    let same : n ≡ value = cc in
    let Holds = λ (m : ℕ). StateTogether (varint value at ∷ []) (m ∷ []) × AreSmall (m ∷ []) in
    let fits : Fits rule (varint value at) = All-head (Fits rule) (varint value at) [] fit in
    let below : value < 2 ^ 32 = small value (fits.in_range value at refl) in
    subst Holds (sym same) ((value ∷ [], [], refl, refl, refl), All-cons (λ (m : ℕ). m < 2 ^ 32) value [] below (All-nil (λ (m : ℕ). m < 2 ^ 32)))
varint_states rule (eight_bytes part ∷ []) n small few fit one = absurd (cc)
varint_states rule (delimited from part ∷ []) n small few fit one = absurd (cc)
varint_states rule (four_bytes part ∷ []) n small few fit one = absurd (cc)
varint_states rule (first ∷ second ∷ contents) n small few fit one = absurd (omega arith)

-- so the numbers of the fields of its number are this one
pub singular_number_ends : (message : Message) (field_number : ℕ) (rule : FieldRule) (bytes : List ℕ) (from : ℕ) (entries : List Entry) (n : ℕ)
    → rule_of message field_number ≡ Some rule → is_singular rule.occurrence ≡ true → TakesSmall rule
    → IsMessage bytes from entries → KeepsSchema message entries → numbers_of field_number entries ≡ n ∷ []
    → NumbersEnd bytes from field_number (n ∷ []) None
singular_number_ends message field_number rule bytes from entries n known singular small whole keeps one =
    let count = keeps.at_most field_number rule known singular in
    let size = length-map (fields_of field_number entries) (λ (entry : Entry). entry.content) in
    let stated = varint_states rule (contents_of field_number entries) n small (omega arith) (contents_fit message field_number rule entries known keeps.fits) one in
    (entries, whole, stated.0, stated.1)

-- a walk gives the first number that is left
pub first_taken : (old new : NumberWalk) (found : Option ℕ) (numbers : List ℕ) → TakesNumber old new found → NumbersLeft old numbers None → found ≡ slice_get numbers 0
first_taken old new None numbers taken left = sym (ap (λ (list : List ℕ). slice_get list 0) (taken numbers left))
first_taken old new (Some m) numbers taken left = let following = taken numbers left in sym (ap (λ (list : List ℕ). slice_get list 0) following.1)

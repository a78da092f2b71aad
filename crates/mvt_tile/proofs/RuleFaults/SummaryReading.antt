-- One more field of a layer is read for its summary.
use Rattle.std.proofs.Common.{◌≡◌, ◌≢◌, ℕ, ◌+◌, ◌-◌, ◌<◌, ◌≤◌, ◌==◌, Bool, not, List, [], ◌∷◌, ◌++◌, length, take, filter_map, Option, Some, refl, sym, ◌∙◌, ap, arith, length-append, length-take}
use Rattle.std.proofs.lemmas.List.{length-map}
use Rattle.std.proofs.lemmas.List.Filters.{length-filter_both}
use Rattle.mvt_wire.specs.Field.{Content, varint, eight_bytes, delimited, four_bytes, Entry, wire_type_of}
use Rattle.mvt_wire.specs.Message.{FieldList}
use Rattle.mvt_wire.specs.Payload.{contents_of, Span, span_of, spans_of, number_in, numbers_of, bytes_in, texts_of}
use Rattle.mvt_rules.specs.Tile.{LayerRecord, IsLayer}
use Rattle.mvt_wire.specs.Walk.{Walk, GivesField}
use Rattle.mvt_wire.proofs.Encoding.Entries.{field_extent}
use Rattle.mvt_rules.proofs.Tiles.PairedLists.{same_length}
use Rattle.mvt_tile.specs.Calls.Reading.{GivesSummary, last_of}
use Rattle.mvt_tile.specs.Calls.RuleFaults.{IsSummary}
use Rattle.mvt_tile.specs.declared.rules.summary.LayerSummary.{LayerSummary}
use Rattle.mvt_wire.proofs.Encoding.Payloads.{picked-push, picked-other, length-filter_map}
use Rattle.mvt_tile.proofs.Reading.ReadingRules.{last_of-push}
use Rattle.mvt_wire.proofs.Walking.{IsWalking}

-- one more is picked out of the payloads of a number
counted : {A : Type 0} (pick : Content → Option A) (field_number : ℕ) (entries : List Entry) (entry : Entry) (x : A) → entry.number ≡ field_number → pick entry.content ≡ Some x
    → length (filter_map pick (contents_of field_number entries)) + 1 ≡ length (filter_map pick (contents_of field_number (entries ++ entry ∷ [])))
counted pick field_number entries entry x is picked =
    sym (length-append (filter_map pick (contents_of field_number entries)) (x ∷ [])) ∙ ap length (sym (picked-push pick field_number entries entry x is picked))

-- a payload of wire type 2 has bytes, and lies somewhere
part_there : (content : Content) → wire_type_of content ≡ 2 → (from : ℕ) × (part : List ℕ) × (content ≡ delimited from part)
part_there (varint value at) own = absurd (omega arith)
part_there (eight_bytes part) own = absurd (omega arith)
part_there (delimited from part) own = (from, part, refl)
part_there (four_bytes part) own = absurd (omega arith)

module _ (entries : List Entry) (entry : Entry) (summary : LayerSummary) (gives : GivesSummary entries summary) where
  -- what a field of another number leaves
  same_version : entry.number ≢ 15 → summary.version ≡ last_of 0 (numbers_of 15 (entries ++ entry ∷ []))
  same_version other = gives.version ∙ ap (last_of 0) (sym (picked-other number_in 15 entries entry other))

  same_name : entry.number ≢ 1 → summary.name.now ≡ last_of [] (texts_of 1 (entries ++ entry ∷ []))
  same_name other = gives.name ∙ ap (last_of []) (sym (picked-other bytes_in 1 entries entry other))

  same_keys : entry.number ≢ 3 → summary.keys ≡ length (texts_of 3 (entries ++ entry ∷ []))
  same_keys other = gives.keys ∙ ap length (sym (picked-other bytes_in 3 entries entry other))

  same_values : entry.number ≢ 4 → summary.values ≡ length (spans_of 4 (entries ++ entry ∷ []))
  same_values other = gives.values ∙ ap length (sym (picked-other span_of 4 entries entry other))

  -- the content of a field, by its number
  pub sums_name : (after : LayerSummary) → after.version ≡ summary.version → after.keys ≡ summary.keys → after.values ≡ summary.values
      → entry.number ≡ 1 → bytes_in entry.content ≡ Some after.name.now → GivesSummary (entries ++ entry ∷ []) after
  sums_name after version keys values is told = record {
    version = version ∙ same_version (omega arith);
    name = sym (last_of-push [] after.name.now (texts_of 1 entries)) ∙ ap (last_of []) (sym (picked-push bytes_in 1 entries entry after.name.now is told));
    keys = keys ∙ same_keys (omega arith);
    values = values ∙ same_values (omega arith);
  }

  pub sums_key : (after : LayerSummary) → after.version ≡ summary.version → after.name ≡ summary.name → after.keys ≡ summary.keys + 1 → after.values ≡ summary.values
      → entry.number ≡ 3 → wire_type_of entry.content ≡ 2 → GivesSummary (entries ++ entry ∷ []) after
  sums_key after version name keys values is own =
      let there = part_there entry.content own in
      record {
        version = version ∙ same_version (omega arith);
        name = ap (λ n. n.now) name ∙ same_name (omega arith);
        keys = keys ∙ ap (λ (n : ℕ). n + 1) gives.keys ∙ counted bytes_in 3 entries entry _ is (ap bytes_in there.2);
        values = values ∙ same_values (omega arith);
      }

  pub sums_value : (after : LayerSummary) → after.version ≡ summary.version → after.name ≡ summary.name → after.keys ≡ summary.keys → after.values ≡ summary.values + 1
      → entry.number ≡ 4 → wire_type_of entry.content ≡ 2 → GivesSummary (entries ++ entry ∷ []) after
  sums_value after version name keys values is own =
      let there = part_there entry.content own in
      record {
        version = version ∙ same_version (omega arith);
        name = ap (λ n. n.now) name ∙ same_name (omega arith);
        keys = keys ∙ same_keys (omega arith);
        values = values ∙ ap (λ (n : ℕ). n + 1) gives.values ∙ counted span_of 4 entries entry _ is (ap span_of there.2);
      }

  pub sums_version : (after : LayerSummary) → after.name ≡ summary.name → after.keys ≡ summary.keys → after.values ≡ summary.values
      → entry.number ≡ 15 → number_in entry.content ≡ Some after.version → GivesSummary (entries ++ entry ∷ []) after
  sums_version after name keys values is told = record {
    version = sym (last_of-push 0 after.version (numbers_of 15 entries)) ∙ ap (last_of 0) (sym (picked-push number_in 15 entries entry after.version is told));
    name = ap (λ n. n.now) name ∙ same_name (omega arith);
    keys = keys ∙ same_keys (omega arith);
    values = values ∙ same_values (omega arith);
  }

-- each field has a byte or more
few_fields : (bytes : List ℕ) (from to : ℕ) (entries : List Entry) → FieldList bytes from entries to → from + length entries ≤ to
few_fields bytes from to [] list = omega arith
few_fields bytes from to (entry ∷ entries) list =
    let extent = field_extent bytes list.1.0 entry list.1.1 in
    let rest = few_fields bytes list.1.0 to entries list.1.2 in
    omega (arith, list.0)

-- no more is picked than there are fields
few_of_list : {A : Type 0} (pick : Content → Option A) (field_number : ℕ) (entries : List Entry) → length (filter_map pick (contents_of field_number entries)) ≤ length entries
few_of_list pick field_number entries =
    let has : Entry → Bool = λ (entry : Entry). entry.number == field_number in
    omega (
      arith,
      length-filter_map pick (contents_of field_number entries),
      length-map {A = Entry} {B = Content},
      length-filter_both has (λ (entry : Entry). not (has entry)) (λ entry. refl) entries,
    )

-- the counts leave room for one more, where one more field is given
pub few_counted : (bytes : List ℕ) (to : ℕ) {from : ℕ} {old new : Walk} {entries : List Entry} {entry : Entry} {summary : LayerSummary}
    → IsWalking (take to bytes) from old entries → GivesField old new entry → GivesSummary entries summary → (summary.keys < to) × (summary.values < to)
few_counted bytes to {from} {old} {new} {entries} so_far given gives =
    let fields = few_fields (take to bytes) from old.at entries so_far.passed in
    let left = given.left in
    let size : length old.bytes ≤ to = omega (arith, ap length so_far.same_bytes, length-take to bytes) in
    let keys = few_of_list bytes_in 3 entries in
    let values = few_of_list span_of 4 entries in
    (omega (arith, gives.keys), omega (arith, gives.values))

-- a layer has no more keys, and no more values, than bytes
pub few_parts : (bytes : List ℕ) (from to : ℕ) (layer : LayerRecord) → IsLayer bytes (record { from = from; to = to }) layer → from ≤ to → (length layer.keys ≤ to - from) × (length layer.values ≤ to - from)
few_parts bytes from to layer is forward =
    let fields = few_fields (take to bytes) from (length (take to bytes)) is.entries is.whole in
    let keys = few_of_list bytes_in 3 is.entries in
    let values = few_of_list span_of 4 is.entries in
    (omega (arith, length-take to bytes, ap length is.keys), omega (arith, length-take to bytes, same_length _ (spans_of 4 is.entries) layer.values is.values))

-- the content of all fields is the summary of the layer that is there
pub IsSummary-from_told : {bytes : List ℕ} {span : Span} {layer : LayerRecord} {told : LayerSummary} (is : IsLayer bytes span layer) → GivesSummary is.entries told → IsSummary told layer
IsSummary-from_told {layer = layer} is gives = record {
  version = gives.version ∙ ap (last_of 0) is.version;
  name = gives.name ∙ ap (last_of []) is.name;
  keys = gives.keys ∙ ap length is.keys;
  values = gives.values ∙ same_length _ (spans_of 4 is.entries) layer.values is.values;
}

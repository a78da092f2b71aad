-- One more field of a layer is read.
use Rattle.std.proofs.Common.{◌≡◌, ◌≢◌, ℕ, ◌≤◌, List, [], ◌∷◌, ◌++◌, length, slice_get, unwrap_or, Some, refl, sym, ◌∙◌, ap, arith}
use Rattle.mvt_wire.specs.Field.{Entry}
use Rattle.mvt_wire.specs.Payload.{Span, span_of, spans_of, number_in, numbers_of, bytes_in, texts_of}
use Rattle.mvt_rules.specs.Tile.{Each, FeatureRecord, IsFeature, ValueRecord, IsValue, LayerRecord, IsLayer}
use Rattle.mvt_tile.specs.Calls.Reading.{GivesLayer, last_of}
use Rattle.mvt_wire.proofs.Encoding.Payloads.{picked-push, picked-other, few_picked}
use Rattle.mvt_tile.proofs.Reading.ReadingRules.{last_of-push}
use Rattle.mvt_tile.proofs.WireFaults.EmbeddedSpans.{Each-picked, Each-other}

module _ (bytes : List ℕ) (entries : List Entry) (entry : Entry) (layer : LayerRecord) (gives : GivesLayer bytes entries layer) where
  -- what a field of another number leaves
  same_version : entry.number ≢ 15 → layer.version ≡ last_of 0 (numbers_of 15 (entries ++ entry ∷ []))
  same_version other = gives.version ∙ ap (last_of 0) (sym (picked-other number_in 15 entries entry other))

  same_name : entry.number ≢ 1 → layer.name ≡ last_of [] (texts_of 1 (entries ++ entry ∷ []))
  same_name other = gives.name ∙ ap (last_of []) (sym (picked-other bytes_in 1 entries entry other))

  same_features : entry.number ≢ 2 → Each (IsFeature bytes) (spans_of 2 (entries ++ entry ∷ [])) layer.features
  same_features other = Each-other (IsFeature bytes) 2 entries entry layer.features other gives.features

  same_keys : entry.number ≢ 3 → texts_of 3 (entries ++ entry ∷ []) ≡ layer.keys
  same_keys other = picked-other bytes_in 3 entries entry other ∙ gives.keys

  same_values : entry.number ≢ 4 → Each (IsValue bytes) (spans_of 4 (entries ++ entry ∷ [])) layer.values
  same_values other = Each-other (IsValue bytes) 4 entries entry layer.values other gives.values

  same_extent : entry.number ≢ 5 → layer.extent ≡ last_of 4096 (numbers_of 5 (entries ++ entry ∷ []))
  same_extent other = gives.extent ∙ ap (last_of 4096) (sym (picked-other number_in 5 entries entry other))

  -- the content of a field, by its number
  pub gives_name : (name : List ℕ) → entry.number ≡ 1 → bytes_in entry.content ≡ Some name
      → GivesLayer bytes (entries ++ entry ∷ []) (record layer { name = name })
  gives_name name is told = record {
    version = same_version (omega arith);
    name = sym (last_of-push [] name (texts_of 1 entries)) ∙ ap (last_of []) (sym (picked-push bytes_in 1 entries entry name is told));
    features = same_features (omega arith);
    keys = same_keys (omega arith);
    values = same_values (omega arith);
    extent = same_extent (omega arith);
  }

  pub gives_feature : (features : List FeatureRecord) (feature : FeatureRecord) (span : Span) → entry.number ≡ 2 → span_of entry.content ≡ Some span
      → IsFeature bytes span feature → features ≡ layer.features ++ feature ∷ [] → GivesLayer bytes (entries ++ entry ∷ []) (record layer { features = features })
  gives_feature features feature span is there stands pushed = record {
    version = same_version (omega arith);
    name = same_name (omega arith);
    features = Each-picked (IsFeature bytes) 2 entries entry layer.features features span feature is there stands pushed gives.features;
    keys = same_keys (omega arith);
    values = same_values (omega arith);
    extent = same_extent (omega arith);
  }

  pub gives_key : (keys : List (List ℕ)) (key : List ℕ) → entry.number ≡ 3 → bytes_in entry.content ≡ Some key → keys ≡ layer.keys ++ key ∷ []
      → GivesLayer bytes (entries ++ entry ∷ []) (record layer { keys = keys })
  gives_key keys key is told pushed = record {
    version = same_version (omega arith);
    name = same_name (omega arith);
    features = same_features (omega arith);
    keys = picked-push bytes_in 3 entries entry key is told ∙ ap (λ (texts : List (List ℕ)). texts ++ key ∷ []) gives.keys ∙ sym pushed;
    values = same_values (omega arith);
    extent = same_extent (omega arith);
  }

  pub gives_value : (values : List ValueRecord) (value : ValueRecord) (span : Span) → entry.number ≡ 4 → span_of entry.content ≡ Some span
      → IsValue bytes span value → values ≡ layer.values ++ value ∷ [] → GivesLayer bytes (entries ++ entry ∷ []) (record layer { values = values })
  gives_value values value span is there stands pushed = record {
    version = same_version (omega arith);
    name = same_name (omega arith);
    features = same_features (omega arith);
    keys = same_keys (omega arith);
    values = Each-picked (IsValue bytes) 4 entries entry layer.values values span value is there stands pushed gives.values;
    extent = same_extent (omega arith);
  }

  pub gives_extent : (extent : ℕ) → entry.number ≡ 5 → number_in entry.content ≡ Some extent
      → GivesLayer bytes (entries ++ entry ∷ []) (record layer { extent = extent })
  gives_extent extent is told = record {
    version = same_version (omega arith);
    name = same_name (omega arith);
    features = same_features (omega arith);
    keys = same_keys (omega arith);
    values = same_values (omega arith);
    extent = sym (last_of-push 4096 extent (numbers_of 5 entries)) ∙ ap (last_of 4096) (sym (picked-push number_in 5 entries entry extent is told));
  }

  pub gives_version : (version : ℕ) → entry.number ≡ 15 → number_in entry.content ≡ Some version
      → GivesLayer bytes (entries ++ entry ∷ []) (record layer { version = version })
  gives_version version is told = record {
    version = sym (last_of-push 0 version (numbers_of 15 entries)) ∙ ap (last_of 0) (sym (picked-push number_in 15 entries entry version is told));
    name = same_name (omega arith);
    features = same_features (omega arith);
    keys = same_keys (omega arith);
    values = same_values (omega arith);
    extent = same_extent (omega arith);
  }

-- a list of at most one number
only_or : (otherwise : ℕ) (numbers : List ℕ) → length numbers ≤ 1 → last_of otherwise numbers ≡ unwrap_or (slice_get numbers 0) otherwise
only_or otherwise [] few = refl
only_or otherwise (n ∷ []) few = refl
only_or otherwise (n ∷ m ∷ numbers) few = absurd (omega arith)

-- a record that has the content of all fields is the one that is there
pub IsLayer-from_told : {bytes : List ℕ} {span : Span} {layer told : LayerRecord} (is : IsLayer bytes span layer) → GivesLayer bytes is.entries told → IsLayer bytes span told
IsLayer-from_told is gives = record {
  entries = is.entries;
  whole = is.whole;
  keeps = is.keeps;
  version = is.version ∙ ap (λ (version : ℕ). version ∷ []) (sym (gives.version ∙ ap (last_of 0) is.version));
  name = is.name ∙ ap (λ (name : List ℕ). name ∷ []) (sym (gives.name ∙ ap (last_of []) is.name));
  features = gives.features;
  keys = gives.keys;
  values = gives.values;
  extent = gives.extent ∙ only_or 4096 (numbers_of 5 is.entries) (few_picked number_in 5 is.entries (is.keeps.at_most 5 _ refl refl));
}

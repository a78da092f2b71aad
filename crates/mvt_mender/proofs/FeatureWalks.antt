-- Walks over a tile and over a layer that find the features at places.
use Rattle.std.proofs.Common.{◌≡◌, ℕ, List, take, length, slice_get, Some, ◌∙◌, ap}
use Rattle.mvt_tile.proofs.WireFaults.CleanWalk.{CleanWalk, CleanWalk-next}
use Rattle.mvt_tile.specs.declared.feature_bytes.FeatureBytes.{FeatureBytes}
use Rattle.mvt_rules.proofs.Tiles.PairedLists.{each_there, same_length}
use Rattle.mvt_wire.proofs.Walking.{IsWalking-over}
use Rattle.mvt_wire.specs.Field.{Entry}
use Rattle.mvt_wire.specs.Payload.{Span, span_of, spans_of}
use Rattle.mvt_rules.specs.Tile.{FeatureRecord, IsFeature, LayerRecord, IsLayer, TileRecord, IsTile}
use Rattle.mvt_wire.specs.Walk.{Walk, IsOver, GivesField}
use Rattle.mvt_mender.specs.Calls.Features.{AreFoundTo}
use Rattle.mvt_mender.specs.declared.place.FeaturePlace.{FeaturePlace}

-- so many messages of a field number were passed
abbrev pub Passed : ℕ → List ℕ → Span → Walk → ℕ → Type 0
Passed field_number bytes span walk count = CleanWalk (λ ordinal inner. Unit {0}) field_number (take span.to bytes) span.from walk count

-- the features of a layer that were passed, and those found among them
pub record IsLayerWalk (bytes : List ℕ) (places : List FeaturePlace) (span : Span) (layer : ℕ) (before : List FeatureBytes) (walk : Walk) (feature : ℕ) (found : List FeatureBytes) : Type 0 where
  pub passed : Passed 2 bytes span walk feature
  pub so_far : (tile : TileRecord) (layer_record : LayerRecord) → IsTile bytes tile → slice_get tile.layers layer ≡ Some layer_record → IsLayer bytes span layer_record
      → AreFoundTo bytes places layer 0 before → AreFoundTo bytes places layer feature found

module _ {bytes : List ℕ} {span : Span} {old new : Walk} {count : ℕ} (passed : Passed 2 bytes span old count) where
  -- the feature of a field is the layer's next
  pub next_feature : {entry : Entry} → GivesField old new entry → entry.number ≡ 2 → (inner : Span) → span_of entry.content ≡ Some inner → (layer_record : LayerRecord) → IsLayer bytes span layer_record
      → (it : FeatureRecord) × (slice_get layer_record.features count ≡ Some it) × IsFeature bytes inner it
  next_feature given own inner there layer_record is =
      let next = CleanWalk-next passed given own inner there is.entries is.whole in
      each_there (IsFeature bytes) (spans_of 2 is.entries) layer_record.features count inner is.features next.here

  -- after the last field all features were passed
  pub all_features : IsOver old new → (layer_record : LayerRecord) → IsLayer bytes span layer_record → count ≡ length layer_record.features
  all_features over layer_record is =
      let all = IsWalking-over is.entries passed.walking is.whole over in
      passed.counted ∙ ap (λ (entries : List Entry). length (spans_of 2 entries)) all ∙ same_length (IsFeature bytes) (spans_of 2 is.entries) layer_record.features is.features

-- the layers that were passed, and the features found in them
pub record IsTileWalk (bytes : List ℕ) (places : List FeaturePlace) (walk : Walk) (layer : ℕ) (found : List FeatureBytes) : Type 0 where
  pub passed : Passed 3 bytes (record { from = 0; to = length bytes }) walk layer
  pub so_far : (tile : TileRecord) → IsTile bytes tile → AreFoundTo bytes places layer 0 found

module _ {bytes : List ℕ} {old new : Walk} {count : ℕ} (passed : Passed 3 bytes (record { from = 0; to = length bytes }) old count) where
  -- the layer of a field is the tile's next
  pub next_layer : {entry : Entry} → GivesField old new entry → entry.number ≡ 3 → (span : Span) → span_of entry.content ≡ Some span → (tile : TileRecord) → IsTile bytes tile
      → (layer_record : LayerRecord) × (slice_get tile.layers count ≡ Some layer_record) × IsLayer bytes span layer_record
  next_layer given own span there tile is =
      let next = CleanWalk-next passed given own span there is.entries is.whole in
      each_there (IsLayer bytes) (spans_of 3 is.entries) tile.layers count span is.layers next.here

  -- after the last field all layers were passed
  pub all_layers : IsOver old new → (tile : TileRecord) → IsTile bytes tile → count ≡ length tile.layers
  all_layers over tile is =
      let all = IsWalking-over is.entries passed.walking is.whole over in
      passed.counted ∙ ap (λ (entries : List Entry). length (spans_of 3 entries)) all ∙ same_length (IsLayer bytes) (spans_of 3 is.entries) tile.layers is.layers

-- One more feature of a layer was passed, or all of them, or one more layer.
use Rattle.std.proofs.Common.{◌≡◌, ◌≢◌, ℕ, ◌+◌, List, [], ◌∷◌, ◌++◌, length, slice_get, Some, refl, subst}
use Rattle.mvt_tile.proofs.WireFaults.CleanWalk.{CleanWalk-more, CleanWalk-other}
use Rattle.mvt_tile.specs.FeatureBytes.{Encodes}
use Rattle.mvt_tile.specs.declared.feature_bytes.FeatureBytes.{FeatureBytes}
use Rattle.mvt_wire.specs.Field.{Entry}
use Rattle.mvt_wire.specs.Payload.{Span, span_of}
use Rattle.mvt_rules.specs.Tile.{FeatureRecord, IsFeature, LayerRecord, IsLayer, TileRecord, IsTile}
use Rattle.mvt_wire.specs.Walk.{Walk, IsOver, GivesField}
use Rattle.mvt_mender.proofs.FeatureWalks.{IsLayerWalk, IsTileWalk, all_features, all_layers, next_feature, next_layer}
use Rattle.mvt_mender.proofs.FoundFeatures.{found_all, found_kept, found_layer, found_pushed}
use Rattle.mvt_mender.specs.Calls.Features.{AreAllFound, AreFoundTo, AreInTurn, HaveFeatures}
use Rattle.mvt_mender.specs.declared.place.FeaturePlace.{FeaturePlace}

module _ (bytes : List ℕ) (places : List FeaturePlace) (in_turn : AreInTurn places) (span : Span) (layer feature : ℕ) (before found : List FeatureBytes) {old new : Walk} {entry : Entry}
    (walk : IsLayerWalk bytes places span layer before old feature found) (given : GivesField old new entry) where
  -- a field that is no feature
  pub walk_other : entry.number ≢ 2 → IsLayerWalk bytes places span layer before new feature found
  walk_other other = record { passed = CleanWalk-other walk.passed given other; so_far = walk.so_far }

  module _ (own : entry.number ≡ 2) (inner : Span) (there : span_of entry.content ≡ Some inner) where
    -- a feature at no place
    pub walk_kept : ((place : FeaturePlace) → slice_get places (length found) ≡ Some place → place.layer ≡ layer → place.feature ≢ feature) → IsLayerWalk bytes places span layer before new (feature + 1) found
    walk_kept none = record {
      passed = CleanWalk-more walk.passed given own inner there tt;
      so_far = λ tile layer_record is in_tile its begun. found_kept bytes places in_turn layer feature found (walk.so_far tile layer_record is in_tile its begun) none;
    }

    -- a feature at the next place
    pub walk_pushed : (it : FeatureBytes) → slice_get places (length found) ≡ Some (record { layer = layer; feature = feature }) → ((feature_record : FeatureRecord) → IsFeature bytes inner feature_record → Encodes it feature_record)
        → IsLayerWalk bytes places span layer before new (feature + 1) (found ++ it ∷ [])
    walk_pushed it here encodes = record {
      passed = CleanWalk-more walk.passed given own inner there tt;
      so_far = λ tile layer_record is in_tile its begun.
          let next = next_feature walk.passed given own inner there layer_record its in
          found_pushed bytes places in_turn layer feature found (walk.so_far tile layer_record is in_tile its begun) (record { layer = layer; feature = feature }) it here refl refl (record {
            layer_record = layer_record;
            feature_record = next.0;
            there = record { tile = tile; is = is; there = record { in_tile = in_tile; in_layer = next.1 } };
            encodes = encodes next.0 next.2;
          });
    }

-- all features of a layer were passed
pub walk_over : (bytes : List ℕ) (places : List FeaturePlace) (have : HaveFeatures bytes places) (span : Span) (layer feature : ℕ) (before found : List FeatureBytes) {old new : Walk} → IsLayerWalk bytes places span layer before old feature found → IsOver old new
    → (tile : TileRecord) (layer_record : LayerRecord) → IsTile bytes tile → slice_get tile.layers layer ≡ Some layer_record → IsLayer bytes span layer_record → AreFoundTo bytes places layer 0 before → AreFoundTo bytes places (layer + 1) 0 found
walk_over bytes places have span layer feature before found walk over tile layer_record is in_tile its begun =
    let end = all_features walk.passed over layer_record its in
    found_layer bytes places have tile is found layer layer_record in_tile (subst (λ (n : ℕ). AreFoundTo bytes places layer n found) end (walk.so_far tile layer_record is in_tile its begun))

module _ (bytes : List ℕ) (places : List FeaturePlace) (layer : ℕ) (found : List FeatureBytes) {old new : Walk} (walk : IsTileWalk bytes places old layer found) where
  -- a field that is no layer
  pub tile_other : {entry : Entry} → GivesField old new entry → entry.number ≢ 3 → IsTileWalk bytes places new layer found
  tile_other given other = record { passed = CleanWalk-other walk.passed given other; so_far = walk.so_far }

  -- one more layer
  pub tile_more : {entry : Entry} → GivesField old new entry → entry.number ≡ 3 → (span : Span) → span_of entry.content ≡ Some span → (longer : List FeatureBytes)
      → ((tile : TileRecord) (layer_record : LayerRecord) → IsTile bytes tile → slice_get tile.layers layer ≡ Some layer_record → IsLayer bytes span layer_record → AreFoundTo bytes places layer 0 found → AreFoundTo bytes places (layer + 1) 0 longer)
      → IsTileWalk bytes places new (layer + 1) longer
  tile_more given own span there longer more = record {
    passed = CleanWalk-more walk.passed given own span there tt;
    so_far = λ tile is. let next = next_layer walk.passed given own span there tile is in more tile next.0 is next.1 next.2 (walk.so_far tile is);
  }

  -- all layers were passed
  pub tile_over : IsOver old new → HaveFeatures bytes places → (tile : TileRecord) → IsTile bytes tile → AreAllFound bytes places found
  tile_over over have tile is =
      let end = all_layers walk.passed over tile is in
      found_all bytes places have tile is found (subst (λ (n : ℕ). AreFoundTo bytes places n 0 found) end (walk.so_far tile is))

-- Spliced bytes are a valid tile where its layers keep their rules and each feature is what its fate asks.
use Rattle.std.proofs.Common.{◌≡◌, ℕ, List, [], ◌∷◌, sym, ◌∙◌, ap, subst}
use Rattle.mvt_rules.specs.Valid.{IsValidFeatureBy, IsValidTileBy, ValidBy}
use Rattle.mvt_fault.specs.declared.profile.Profile.{Profile}
use Rattle.mvt_wire.specs.Number.{AreSmall}
use Rattle.mvt_rules.specs.Tile.{FeatureRecord, LayerRecord, TileRecord, IsTile}
use Rattle.mvt_splice.specs.Splice.{Fate, stays, redrawn, dropped, fate_in, IsSpliced}
use Rattle.mvt_splice.specs.SplicedTile.{redrawn_feature, feature_after, layer_after, spliced_tile, IsValidAfter, IsValidOnceSpliced}
use Rattle.mvt_splice.specs.declared.change.Change.{Change}
use Rattle.mvt_splice.proofs.SplicedTiles.FeaturesLeft.{layer_left, was_feature}
use Rattle.mvt_splice.proofs.SplicedTiles.SplicedWholes.{spliced_is_tile}

-- what is left of a feature is valid in its layer
valid_after : (profile : Profile) (fate : Fate) (layer_record : LayerRecord) (feature_record after : FeatureRecord) → IsValidAfter profile fate layer_record feature_record → feature_after fate feature_record ≡ after ∷ [] → IsValidFeatureBy profile layer_record after
valid_after profile stays layer_record feature_record after valid left =
    let same : feature_record ≡ after = cc in subst (IsValidFeatureBy profile layer_record) same valid
valid_after profile (redrawn geometry) layer_record feature_record after valid left =
    let same : redrawn_feature geometry feature_record ≡ after = cc in subst (IsValidFeatureBy profile layer_record) same valid.1
valid_after profile dropped layer_record feature_record after valid left = absurd (cc)

-- and in the layer that is left, which has the same keys and values
valid_in_left : (profile : Profile) (fates : ℕ → Fate) (layer_record : LayerRecord) (feature_record : FeatureRecord) → IsValidFeatureBy profile layer_record feature_record → IsValidFeatureBy profile (layer_after fates layer_record) feature_record
valid_in_left profile fates layer_record feature_record valid = record { tags = valid.tags; geometry = valid.geometry }

-- the numbers that such features are drawn with are small
pub small_after : (profile : Profile) (fate : Fate) (layer_record : LayerRecord) (feature_record : FeatureRecord) (geometry : List ℕ) → IsValidAfter profile fate layer_record feature_record → fate ≡ redrawn geometry → AreSmall geometry
small_after profile stays layer_record feature_record geometry valid is = absurd (cc)
small_after profile (redrawn numbers) layer_record feature_record geometry valid is = let same : numbers ≡ geometry = cc in subst (λ (list : List ℕ). AreSmall list) same valid.0
small_after profile dropped layer_record feature_record geometry valid is = absurd (cc)

-- the tile that is left is valid
pub valid_tile_left : (profile : Profile) (fates : ℕ → ℕ → Fate) (tile : TileRecord) → IsValidOnceSpliced profile fates tile → IsValidTileBy profile (spliced_tile fates tile)
valid_tile_left profile fates tile once = record {
  versions = λ layer broken.
      let its = layer_left fates 0 tile.layers layer broken.layer_record broken.there in
      once.versions layer (record { layer_record = its.0; there = its.1; other = λ is. broken.other (ap (λ (it : LayerRecord). it.version) its.2 ∙ is) });
  names = λ first second same.
      let one = layer_left fates 0 tile.layers first same.layer_record same.there in
      let other = layer_left fates 0 tile.layers second same.other same.other_there in
      once.names first second (record {
        earlier = same.earlier;
        layer_record = one.0;
        there = one.1;
        other = other.0;
        other_there = other.1;
        same = sym (ap (λ (it : LayerRecord). it.name) one.2) ∙ same.same ∙ ap (λ (it : LayerRecord). it.name) other.2;
      });
  features = λ layer feature layer_record feature_record there.
      let was = was_feature fates tile layer feature layer_record feature_record there in
      let asked = once.features layer was.feature was.its_layer was.feature_record was.there in
      let valid = valid_after profile (fates layer was.feature) was.its_layer was.feature_record feature_record asked was.left in
      subst (λ (it : LayerRecord). IsValidFeatureBy profile it feature_record) (sym was.left_layer) (valid_in_left profile (fates layer) was.its_layer feature_record valid);
}

-- the law: spliced bytes are valid
pub spliced_is_valid : (profile : Profile) (changes : List Change) (bytes out : List ℕ) (tile : TileRecord) → IsSpliced changes bytes out → IsTile bytes tile → IsValidOnceSpliced profile (fate_in changes) tile → ValidBy profile out
spliced_is_valid profile changes bytes out tile it is once = record {
  tile = spliced_tile (fate_in changes) tile;
  is = spliced_is_tile changes bytes out tile it is (λ layer feature layer_record feature_record geometry there drawn.
      small_after profile (fate_in changes layer feature) layer_record feature_record geometry (once.features layer feature layer_record feature_record there) drawn);
  valid = valid_tile_left profile (fate_in changes) tile once;
}

-- The record of a tile whose features had fates (Mapbox Vector Tile Specification 2.1, section 4).
use Rattle.std.specs.Prelude.{◌≡◌, ℕ, suc, List, [], ◌∷◌, ◌++◌}
use Rattle.mvt_rules.specs.Valid.{IsValidFeatureBy}
use Rattle.mvt_fault.specs.declared.profile.Profile.{Profile}
use Rattle.mvt_splice.specs.Splice.{Fate, stays, redrawn, dropped}
use Rattle.mvt_wire.specs.Number.{AreSmall}
use Rattle.mvt_rules.specs.Rules.{OtherVersion, SameName, IsFeatureOf}
use Rattle.mvt_rules.specs.Tile.{FeatureRecord, LayerRecord, TileRecord}

-- a feature with other numbers of its geometry; its id, its tags and its type stay
abbrev pub redrawn_feature : List ℕ → FeatureRecord → FeatureRecord
redrawn_feature geometry feature = record { id = feature.id; tags = feature.tags; kind = feature.kind; geometry = geometry }

-- what is left of a feature: it is alone in the list, or the list is empty
abbrev pub feature_after : Fate → FeatureRecord → List FeatureRecord
feature_after stays feature = feature ∷ []
feature_after (redrawn geometry) feature = redrawn_feature geometry feature ∷ []
feature_after dropped feature = []

-- what is left of features, the first of which has this ordinal
abbrev pub features_after : (ℕ → Fate) → ℕ → List FeatureRecord → List FeatureRecord
features_after fates ordinal [] = []
features_after fates ordinal (feature ∷ features) = feature_after (fates ordinal) feature ++ features_after fates (suc ordinal) features

-- a layer keeps all but the features
abbrev pub layer_after : (ℕ → Fate) → LayerRecord → LayerRecord
layer_after fates layer = record {
  version = layer.version;
  name = layer.name;
  features = features_after fates 0 layer.features;
  keys = layer.keys;
  values = layer.values;
  extent = layer.extent;
}

-- layers, the first of which has this ordinal
abbrev pub layers_after : (ℕ → ℕ → Fate) → ℕ → List LayerRecord → List LayerRecord
layers_after fates ordinal [] = []
layers_after fates ordinal (layer ∷ layers) = layer_after (fates ordinal) layer ∷ layers_after fates (suc ordinal) layers

-- a tile, by the fates of its features: that of each layer's ordinal and of the feature's own
abbrev pub spliced_tile : (ℕ → ℕ → Fate) → TileRecord → TileRecord
spliced_tile fates tile = record { layers = layers_after fates 0 tile.layers }

-- the new numbers of a tile's features have 32 bits
abbrev pub DrawsSmall : (ℕ → ℕ → Fate) → TileRecord → Type 0
DrawsSmall fates tile = (layer feature : ℕ) (layer_record : LayerRecord) (feature_record : FeatureRecord) (geometry : List ℕ)
    → IsFeatureOf tile layer feature layer_record feature_record → fates layer feature ≡ redrawn geometry → AreSmall geometry

-- What is asked of a feature by its fate: one that stays is valid; one that is redrawn is valid with its new numbers, which have
-- 32 bits; one that is left out may be anything.
abbrev pub IsValidAfter : Profile → Fate → LayerRecord → FeatureRecord → Type 0
IsValidAfter profile stays layer_record feature_record = IsValidFeatureBy profile layer_record feature_record
IsValidAfter profile (redrawn geometry) layer_record feature_record = AreSmall geometry × IsValidFeatureBy profile layer_record (redrawn_feature geometry feature_record)
IsValidAfter profile dropped layer_record feature_record = Unit {0}

-- all layers have version 2 and names of their own, and each feature is what its fate asks
pub record IsValidOnceSpliced (profile : Profile) (fates : ℕ → ℕ → Fate) (tile : TileRecord) : Type 0 where
  pub versions : (layer : ℕ) → ¬ OtherVersion tile layer
  pub names : (first second : ℕ) → ¬ SameName tile first second
  pub features : (layer feature : ℕ) (layer_record : LayerRecord) (feature_record : FeatureRecord)
      → IsFeatureOf tile layer feature layer_record feature_record → IsValidAfter profile (fates layer feature) layer_record feature_record

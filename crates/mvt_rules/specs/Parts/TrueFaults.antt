-- Which faults are true of a tile's bytes, and which of its record. A fault that a definition has no case for is none of
-- its faults.
use Rattle.std.specs.Prelude.{◌⊎◌, ℕ, List, length}
use Rattle.mvt_wire.specs.Field.{cause_at}
use Rattle.mvt_rules.specs.Rules.{OtherVersion, SameName, TagsBreak, IsFeatureOf}
use Rattle.mvt_rules.specs.Tile.{FeatureRecord, LayerRecord, TileRecord}
use Rattle.mvt_rules.specs.WireFault.{WireFault}
use Rattle.mvt_wire.specs.declared.cause.WireCode.{WireCode}
use Rattle.mvt_wire.specs.declared.scope.Scope.{Scope}
use Rattle.mvt_fault.specs.declared.fault.Fault.{Fault}
use Rattle.mvt_fault.specs.declared.fault.Fault.TheVariants.{Wire, Version, Name, Tag}
use Rattle.mvt_fault.specs.declared.tag.TagCode.{TagCode}

-- the bytes have this wire fault
pub data IsWireFault (bytes : List ℕ) : Fault → Type 0 where
  wire : (code : WireCode) (scope : Scope) (at field : ℕ) → WireFault bytes scope (cause_at code at field)
      → IsWireFault bytes (Wire code scope at field)

-- the tile's layers have this fault of versions or names (Mapbox Vector Tile Specification 2.1, section 4.1)
pub data IsFaultOfLayers (tile : TileRecord) : Fault → Type 0 where
  version : (layer : ℕ) → OtherVersion tile layer → IsFaultOfLayers tile (Version layer)
  name : (first second : ℕ) → SameName tile first second → IsFaultOfLayers tile (Name first second)

-- the feature of a layer has this fault of tags, which names the two by their ordinals
pub data IsFaultOfTags (layer_record : LayerRecord) (feature_record : FeatureRecord) (layer feature : ℕ) : Fault → Type 0 where
  tag : (code : TagCode) (index : ℕ) → TagsBreak code (length layer_record.keys) (length layer_record.values) feature_record.tags index
      → IsFaultOfTags layer_record feature_record layer feature (Tag code layer feature index)

-- What is said of a feature of a layer, of their ordinals and of a fault
abbrev pub FeatureFaultRelation : Type 1
FeatureFaultRelation = LayerRecord → FeatureRecord → ℕ → ℕ → Fault → Type 0

-- one of the tile's features has this fault
pub record OneFeatureHas (IsFaultOf : FeatureFaultRelation) (tile : TileRecord) (fault : Fault) : Type 0 where
  pub layer : ℕ
  pub feature : ℕ
  pub layer_record : LayerRecord
  pub feature_record : FeatureRecord
  pub there : IsFeatureOf tile layer feature layer_record feature_record
  pub broken : IsFaultOf layer_record feature_record layer feature fault

-- the tile's record breaks a rule between its parts
abbrev pub BreaksRule : TileRecord → Fault → Type 0
BreaksRule tile fault = IsFaultOfLayers tile fault ⊎ OneFeatureHas IsFaultOfTags tile fault

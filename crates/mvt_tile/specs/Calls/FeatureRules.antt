-- What a walk over features finds by a further rule.
use Rattle.std.specs.Prelude.{◌≡◌, ◌≢◌, ℕ, Option, Some, MatchOption, slice_get}
use Rattle.mvt_rules.specs.Parts.TrueFaults.{IsFaultOfTags, OneFeatureHas}
use Rattle.mvt_fault.specs.declared.fault.Fault.{Fault}
use Rattle.mvt_rules.specs.Rules.{IsFeatureOf}
use Rattle.mvt_rules.specs.Tile.{FeatureRecord, LayerRecord, TileRecord}
use Rattle.mvt_tile.specs.FreeFaults.{IsLeastOr}
use Rattle.mvt_tile.specs.RuleFaults.{Breaks, Frees, Keeps, AllSoundInLayer, IsFaultOfFeature, IsSoundFeature}

-- one of the features of the layer with an ordinal has this fault
pub record IsFaultInLayer (IsBroken : Breaks) (layer_record : LayerRecord) (layer : ℕ) (fault : Fault) : Type 0 where
  pub feature : ℕ
  pub feature_record : FeatureRecord
  pub there : slice_get layer_record.features feature ≡ Some feature_record
  pub broken : IsFaultOfFeature IsBroken layer_record feature_record layer feature fault

-- each feature of the tile is sound
abbrev pub AllSound : Breaks → Keeps → TileRecord → Type 0
AllSound IsBroken IsKept tile =
    (layer feature : ℕ) (layer_record : LayerRecord) (feature_record : FeatureRecord) → IsFeatureOf tile layer feature layer_record feature_record → IsSoundFeature IsBroken IsKept layer_record feature_record layer feature

-- the tags of each feature of the layer with an ordinal have no fault; and a feature that isn't of polygons neither breaks a further
-- rule nor fails to keep it
pub record AreSoundButPolygons (IsBroken : Breaks) (IsKept : Keeps) (layer_record : LayerRecord) (layer : ℕ) : Type 0 where
  pub tags : (feature : ℕ) (feature_record : FeatureRecord) → slice_get layer_record.features feature ≡ Some feature_record → (fault : Fault) → ¬ IsFaultOfTags layer_record feature_record layer feature fault
  pub others : (feature : ℕ) (feature_record : FeatureRecord) → slice_get layer_record.features feature ≡ Some feature_record → feature_record.kind ≢ 3
      → ((fault : Fault) → ¬ IsBroken feature_record layer feature fault) × IsKept feature_record

-- the first fault of a feature is found, or a free one, or none where it is sound
abbrev pub FindsInFeature : Frees → Breaks → Keeps → LayerRecord → FeatureRecord → ℕ → ℕ → Option Fault → Type 0
FindsInFeature IsFree IsBroken IsKept layer_record feature_record layer feature found =
    MatchOption found (IsSoundFeature IsBroken IsKept layer_record feature_record layer feature) (IsLeastOr IsFree (IsFaultOfFeature IsBroken layer_record feature_record layer feature))

-- so it is of the features of a layer, and of those of a tile
abbrev pub FindsInLayer : Frees → Breaks → Keeps → LayerRecord → ℕ → Option Fault → Type 0
FindsInLayer IsFree IsBroken IsKept layer_record layer found = MatchOption found (AllSoundInLayer IsBroken IsKept layer_record layer) (IsLeastOr IsFree (IsFaultInLayer IsBroken layer_record layer))

abbrev pub FindsInTile : Frees → Breaks → Keeps → TileRecord → Option Fault → Type 0
FindsInTile IsFree IsBroken IsKept tile found = MatchOption found (AllSound IsBroken IsKept tile) (IsLeastOr IsFree (OneFeatureHas (IsFaultOfFeature IsBroken) tile))

-- The faults of a tile by its rules, one of each layer and one of each feature that has any: its first, or a free one.
use Rattle.std.specs.Prelude.{◌≡◌, ◌≢◌, ℕ, ◌<◌, ◌⊎◌, List, ◌∷◌, Some, slice_get, take}
use Rattle.mvt_fault.specs.Place.{ComesFirst, IsLeast, place_of}
use Rattle.mvt_rules.specs.Parts.TrueFaults.{IsFaultOfLayers}
use Rattle.mvt_fault.specs.declared.fault.Fault.{Fault}
use Rattle.mvt_rules.specs.Rules.{IsFeatureOf}
use Rattle.mvt_rules.specs.Tile.{FeatureRecord, LayerRecord, TileRecord}
use Rattle.mvt_tile.specs.FreeFaults.{IsLeastOr}
use Rattle.mvt_tile.specs.RuleFaults.{Breaks, Frees, Keeps, IsFaultOfFeature, IsSoundFeature}

-- the fault is of this layer, by its place: of two layers of one name, of the second
abbrev pub IsOfLayer : ℕ → Fault → Type 0
IsOfLayer layer fault = (rest : List ℕ) × (place_of fault ≡ 1 ∷ layer ∷ rest)

-- the layer has this fault, of its version or of its name
pub record IsFaultOfLayer (tile : TileRecord) (layer : ℕ) (fault : Fault) : Type 0 where
  pub broken : IsFaultOfLayers tile fault
  pub of_layer : IsOfLayer layer fault

-- the fault is the first of a layer, or the first of a feature, or a free one of it
pub data IsFirstOfPart (IsFree : Frees) (IsBroken : Breaks) (tile : TileRecord) (fault : Fault) : Type 0 where
  of_layer : (layer : ℕ) → IsLeast (IsFaultOfLayer tile layer) fault → IsFirstOfPart IsFree IsBroken tile fault
  of_feature : (layer feature : ℕ) (layer_record : LayerRecord) (feature_record : FeatureRecord) → IsFeatureOf tile layer feature layer_record feature_record
      → IsLeastOr IsFree (IsFaultOfFeature IsBroken layer_record feature_record layer feature) fault → IsFirstOfPart IsFree IsBroken tile fault

-- the first place comes before the second by the first three numbers, which say of which feature it is, or of which layer with the code
pub record IsOfEarlierPart (place other : List ℕ) : Type 0 where
  pub first : ComesFirst (take 3 place) (take 3 other)
  pub differ : take 3 place ≢ take 3 other

-- the faults stand in the order of their places, and no feature has two
abbrev pub AreFaultsInOrder : List Fault → Type 0
AreFaultsInOrder faults = (at later : ℕ) (fault other : Fault) → at < later → slice_get faults at ≡ Some fault → slice_get faults later ≡ Some other
    → IsOfEarlierPart (place_of fault) (place_of other)

-- this holds of one of the faults
abbrev pub OneOf : List Fault → (Fault → Type 0) → Type 0
OneOf faults Holds = (at : ℕ) × (fault : Fault) × (slice_get faults at ≡ Some fault) × Holds fault

-- the first fault of each layer and of each feature that has one, in the order of their places, and no others
pub record AreFirstFaults (IsFree : Frees) (IsBroken : Breaks) (IsKept : Keeps) (tile : TileRecord) (faults : List Fault) : Type 0 where
  pub each : (at : ℕ) (fault : Fault) → slice_get faults at ≡ Some fault → IsFirstOfPart IsFree IsBroken tile fault
  pub in_order : AreFaultsInOrder faults
  pub layers : (layer : ℕ) (fault : Fault) → IsFaultOfLayer tile layer fault → OneOf faults (IsLeast (IsFaultOfLayer tile layer))
  -- a feature that has none keeps the rules
  pub features : (layer feature : ℕ) (layer_record : LayerRecord) (feature_record : FeatureRecord) → IsFeatureOf tile layer feature layer_record feature_record
      → OneOf faults (IsLeastOr IsFree (IsFaultOfFeature IsBroken layer_record feature_record layer feature)) ⊎ IsSoundFeature IsBroken IsKept layer_record feature_record layer feature

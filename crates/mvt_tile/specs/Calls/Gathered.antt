-- The first faults of a tile's parts, layers or features, that were passed, and what is kept of its layers.
use Rattle.std.specs.Prelude.{◌≡◌, ℕ, ◌<◌, ◌⊎◌, List, length, map, Option, Some, MatchOption, slice_get}
use Rattle.mvt_fault.specs.Place.{IsLeast}
use Rattle.mvt_fault.specs.declared.fault.Fault.{Fault}
use Rattle.mvt_rules.specs.Rules.{IsFeatureOf}
use Rattle.mvt_rules.specs.Tile.{FeatureRecord, LayerRecord, TileRecord}
use Rattle.mvt_tile.specs.FirstFaults.{AreFaultsInOrder, IsFaultOfLayer, OneOf}
use Rattle.mvt_tile.specs.FreeFaults.{IsLeastOr}
use Rattle.mvt_tile.specs.RuleFaults.{Breaks, Frees, Keeps, IsFaultOfFeature, IsSoundFeature}
use Rattle.mvt_tile.specs.Calls.RuleFaults.{IsSummary}
use Rattle.mvt_tile.specs.declared.rules.summary.LayerSummary.{LayerSummary}

-- of the parts that were passed the list has the faults that are found of them, in order, and no others; a part of which it has none is free of them
pub record AreGathered {Part : Type 0} (IsOf : Part → Fault → Type 0) (IsFree : Part → Type 0) (IsPassed : Part → Type 0) (faults : List Fault) : Type 0 where
  pub each : (at : ℕ) (fault : Fault) → slice_get faults at ≡ Some fault → (part : Part) × IsPassed part × IsOf part fault
  pub in_order : AreFaultsInOrder faults
  pub all : (part : Part) → IsPassed part → OneOf faults (IsOf part) ⊎ IsFree part

-- a feature of a tile, in its layer
pub record TileFeature (tile : TileRecord) : Type 0 where
  pub layer : ℕ
  pub feature : ℕ
  pub layer_record : LayerRecord
  pub feature_record : FeatureRecord
  pub there : IsFeatureOf tile layer feature layer_record feature_record

-- it is in an earlier layer, or earlier in this one
abbrev pub IsInFront : {tile : TileRecord} → ℕ → ℕ → TileFeature tile → Type 0
IsInFront layer feature it = (it.layer < layer) ⊎ ((it.layer ≡ layer) × (it.feature < feature))

-- so it is gathered of the tile's features in front of this one
abbrev pub AreGatheredTo : Frees → Breaks → Keeps → TileRecord → ℕ → ℕ → List Fault → Type 0
AreGatheredTo IsFree IsBroken IsKept tile layer feature faults =
    AreGathered {Part = TileFeature tile} (λ it. IsLeastOr IsFree (IsFaultOfFeature IsBroken it.layer_record it.feature_record it.layer it.feature))
    (λ it. IsSoundFeature IsBroken IsKept it.layer_record it.feature_record it.layer it.feature) (IsInFront layer feature) faults

-- and of its layers in front of this one
abbrev pub AreGatheredLayers : TileRecord → ℕ → List Fault → Type 0
AreGatheredLayers tile end faults = AreGathered (λ layer. IsLeast (IsFaultOfLayer tile layer)) (λ layer. (fault : Fault) → ¬ IsFaultOfLayer tile layer fault) (λ layer. layer < end) faults

-- these are the summaries of all layers of the tile
pub record AreSummaries (summaries : List LayerSummary) (tile : TileRecord) : Type 0 where
  pub count : length summaries ≡ length tile.layers
  pub each : (layer : ℕ) (summary : LayerSummary) → slice_get summaries layer ≡ Some summary → (layer_record : LayerRecord) × (slice_get tile.layers layer ≡ Some layer_record) × IsSummary summary layer_record

-- the name at a place of the summaries
abbrev pub NameAt : List LayerSummary → ℕ → List ℕ → Type 0
NameAt summaries place name = slice_get (map (λ summary. summary.name.now) summaries) place ≡ Some name

-- the first fault of a layer is found, or none where it has none
abbrev pub FindsOfLayer : TileRecord → ℕ → Option Fault → Type 0
FindsOfLayer tile layer found = MatchOption found ((fault : Fault) → ¬ IsFaultOfLayer tile layer fault) (IsLeast (IsFaultOfLayer tile layer))

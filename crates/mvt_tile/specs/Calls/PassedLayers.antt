-- What is kept of the layers of a tile that were passed, to find the first that breaks a rule (Mapbox Vector Tile
-- Specification 2.1, section 4.1).
use Rattle.std.specs.Prelude.{◌≡◌, ℕ, ◌<◌, ◌⊎◌, true, false, List, length, slice_get, Option, Some}
use Rattle.mvt_fault.specs.Place.{IsLeast}
use Rattle.mvt_fault.specs.declared.fault.Fault.{Fault}
use Rattle.mvt_rules.specs.Parts.TrueFaults.{IsFaultOfLayers}
use Rattle.mvt_rules.specs.Rules.{OtherVersion}
use Rattle.mvt_rules.specs.Tile.{LayerRecord, TileRecord}
use Rattle.mvt_tile.specs.declared.rules.layer_rules.LayerRules.{LayerRules}

-- how many layers of version 2 were passed: as many as names are kept
abbrev pub passed : LayerRules → ℕ
passed rules = length rules.names

-- the tile's first layers were passed: each has version 2, and its name is kept in its place
pub record ArePassed (rules : LayerRules) (tile : TileRecord) : Type 0 where
  pub version : (layer : ℕ) (layer_record : LayerRecord) → layer < passed rules → slice_get tile.layers layer ≡ Some layer_record → layer_record.version ≡ 2
  pub named : (layer : ℕ) (layer_record : LayerRecord) → layer < passed rules → slice_get tile.layers layer ≡ Some layer_record → slice_get rules.names layer ≡ Some layer_record.name
  pub there : (layer : ℕ) → layer < passed rules → (layer_record : LayerRecord) × (slice_get tile.layers layer ≡ Some layer_record)

-- so they were, and no other layer
pub record PassesLayers (rules : LayerRules) (tile : TileRecord) : Type 0 where
  pub layers : ArePassed rules tile
  pub no_other : rules.other_version ≡ false

-- the layer after those that were passed, by its version and its name
pub record IsNextLayer (rules : LayerRules) (tile : TileRecord) (version : ℕ) (name : List ℕ) : Type 0 where
  pub layer_record : LayerRecord
  pub there : slice_get tile.layers (passed rules) ≡ Some layer_record
  pub of_version : version ≡ layer_record.version
  pub of_name : name ≡ layer_record.name

-- all layers were passed, or all in front of the first of another version
pub record EndsLayers (rules : LayerRules) (tile : TileRecord) : Type 0 where
  pub layers : ArePassed rules tile
  pub end : ((rules.other_version ≡ true) × OtherVersion tile (passed rules)) ⊎ ((rules.other_version ≡ false) × (length tile.layers ≡ passed rules))

-- the first fault of the layers is stored, or they have none and nothing is
abbrev pub StoresOfLayers : LayerRules → Option Fault → Option Fault → Type 0
StoresOfLayers rules old new =
    ((fault : Fault) × (new ≡ Some fault) × ((tile : TileRecord) → EndsLayers rules tile → IsLeast (IsFaultOfLayers tile) fault))
    ⊎ ((new ≡ old) × ((tile : TileRecord) → EndsLayers rules tile → (fault : Fault) → ¬ IsFaultOfLayers tile fault))

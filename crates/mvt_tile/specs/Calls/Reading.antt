-- What is known of the fields of a message while they are read one by one.
use Rattle.std.specs.Prelude.{◌≡◌, ℕ, List, [], ◌∷◌, length}
use Rattle.mvt_wire.specs.Field.{Entry}
use Rattle.mvt_wire.specs.Payload.{spans_of, numbers_of, texts_of}
use Rattle.mvt_rules.specs.Tile.{IsFeature, IsValue, LayerRecord, IsLayer, TileRecord, Each}
use Rattle.mvt_tile.specs.declared.rules.summary.LayerSummary.{LayerSummary}

-- the last of a list, or another value where there is none
abbrev pub last_of : {A : Type 0} → A → List A → A
last_of otherwise [] = otherwise
last_of otherwise (x ∷ xs) = last_of x xs

-- the layer has the content of these fields of it, and extent 4096 where none of them is its extent
pub record GivesLayer (bytes : List ℕ) (entries : List Entry) (layer : LayerRecord) : Type 0 where
  pub version : layer.version ≡ last_of 0 (numbers_of 15 entries)
  pub name : layer.name ≡ last_of [] (texts_of 1 entries)
  pub features : Each (IsFeature bytes) (spans_of 2 entries) layer.features
  pub keys : texts_of 3 entries ≡ layer.keys
  pub values : Each (IsValue bytes) (spans_of 4 entries) layer.values
  pub extent : layer.extent ≡ last_of 4096 (numbers_of 5 entries)

-- the summary has the content of these fields of a layer
pub record GivesSummary (entries : List Entry) (summary : LayerSummary) : Type 0 where
  pub version : summary.version ≡ last_of 0 (numbers_of 15 entries)
  pub name : summary.name.now ≡ last_of [] (texts_of 1 entries)
  pub keys : summary.keys ≡ length (texts_of 3 entries)
  pub values : summary.values ≡ length (spans_of 4 entries)

-- the tile has the content of these fields of it
abbrev pub GivesTile : List ℕ → List Entry → TileRecord → Type 0
GivesTile bytes entries tile = Each (IsLayer bytes) (spans_of 3 entries) tile.layers

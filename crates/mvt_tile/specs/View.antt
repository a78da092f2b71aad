-- What a reader's records show: the records of the definitions.
use Rattle.std.specs.Prelude.{ℕ, map}
use Rattle.mvt_rules.specs.Tile.{FeatureRecord, ValueRecord, text, float, double, int, uint, sint, truth, LayerRecord, TileRecord}
use Rattle.mvt_tile.specs.declared.record.Tile.{Tile}
use Rattle.mvt_tile.specs.declared.record.Layer.{Layer}
use Rattle.mvt_tile.specs.declared.record.Feature.{Feature}
use Rattle.mvt_tile.specs.declared.record.Kind.{Kind}
use Rattle.mvt_tile.specs.declared.record.Kind.TheVariants.{Unknown, Point, LineString, Polygon}
use Rattle.mvt_tile.specs.declared.record.Value.{Value}
use Rattle.mvt_tile.specs.declared.record.Value.TheVariants.{Text, Float, Double, Int, Uint, Sint, Bool}

-- the number of a geometry type
abbrev pub kind_number : Kind → ℕ
kind_number Unknown = 0
kind_number Point = 1
kind_number LineString = 2
kind_number Polygon = 3

-- the feature that a record shows
abbrev pub feature_of : Feature → FeatureRecord
feature_of feature = record {
  id = feature.id;
  tags = feature.tags.items;
  kind = kind_number feature.kind;
  geometry = feature.geometry.items;
}

-- the value that a record shows
abbrev pub value_of : Value → ValueRecord
value_of (Text bytes) = text bytes.now
value_of (Float bytes) = float bytes.now
value_of (Double bytes) = double bytes.now
value_of (Int z) = int z
value_of (Uint n) = uint n
value_of (Sint z) = sint z
value_of (Bool b) = truth b

-- the layer that a record shows
abbrev pub layer_of : Layer → LayerRecord
layer_of layer = record {
  version = layer.version;
  name = layer.name.now;
  features = map feature_of layer.features.items;
  keys = map (λ key. key.now) layer.keys.items;
  values = map value_of layer.values.items;
  extent = layer.extent;
}

-- the tile that a record shows
abbrev pub tile_of : Tile → TileRecord
tile_of tile = record { layers = map layer_of tile.layers.items }

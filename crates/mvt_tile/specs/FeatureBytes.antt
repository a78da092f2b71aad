-- A feature that is read from the bytes of a tile (Mapbox Vector Tile Specification 2.1, section 4.2).
use Rattle.std.specs.Prelude.{◌≡◌, None}
use Rattle.mvt_wire.specs.Numbers.{NumbersLeft, walk_at}
use Rattle.mvt_rules.specs.Tile.{FeatureRecord}
use Rattle.mvt_tile.specs.View.{kind_number}
use Rattle.mvt_tile.specs.declared.feature_bytes.FeatureBytes.{FeatureBytes}

-- these bytes encode the feature of this record
pub record Encodes (feature : FeatureBytes) (feature_record : FeatureRecord) : Type 0 where
  pub id : feature_record.id ≡ feature.parts.id
  pub kind : feature_record.kind ≡ kind_number feature.parts.kind
  pub tags : NumbersLeft (walk_at feature.bytes.now 2 feature.parts.tags.at feature.parts.tags.end) feature_record.tags None
  pub geometry : NumbersLeft (walk_at feature.bytes.now 4 feature.parts.geometry.at feature.parts.geometry.end) feature_record.geometry None

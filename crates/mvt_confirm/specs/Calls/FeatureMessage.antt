-- The bytes of a feature, as the program has them (Mapbox Vector Tile Specification 2.1, section 4.2).
use Rattle.std.specs.Prelude.{List}
use Rattle.mvt_confirm.specs.Calls.ByteSpan.{as_span}
use Rattle.mvt_confirm.specs.declared.message_bytes.MessageBytes.{MessageBytes}
use Rattle.mvt_plane.specs.FeatureGeometry.{HasRings}
use Rattle.mvt_plane.specs.Position.{Position}
use Rattle.mvt_rules.specs.Tile.{FeatureRecord, IsFeature}

-- the feature that is there
abbrev pub IsFeatureAt : MessageBytes → FeatureRecord → Type 0
IsFeatureAt place feature_record = IsFeature place.bytes.now (as_span place.span) feature_record

-- a feature is there whose geometry is the spelling of these rings
pub record DrawsRings (place : MessageBytes) (rings : List (List Position)) : Type 0 where
  pub feature_record : FeatureRecord
  pub is : IsFeatureAt place feature_record
  pub drawn : HasRings feature_record.kind feature_record.geometry rings

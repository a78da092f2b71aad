-- The parts of a feature, as its fields give them.
use Rattle.std.specs.Prelude.{◌≡◌, ℕ, List, map, None, Some}
use Rattle.mvt_wire.specs.Field.{Entry}
use Rattle.mvt_wire.specs.Payload.{numbers_of}
use Rattle.mvt_wire.specs.Message.{FieldList}
use Rattle.mvt_wire.specs.NumberSources.{StandBefore}
use Rattle.mvt_wire.specs.declared.schema.Message.TheVariants.{Feature}
use Rattle.mvt_tile.specs.Calls.FieldScan.{HasScanned}
use Rattle.mvt_tile.specs.Calls.Reading.{last_of}
use Rattle.mvt_tile.specs.View.{kind_number}
use Rattle.mvt_tile.specs.declared.feature_bytes.FeatureParts.{FeatureParts}
use Rattle.mvt_tile.specs.declared.wire.scan.FieldScan.{FieldScan}

-- the parts are those of these fields, after which the place is
pub record GivesParts (message : List ℕ) (from : ℕ) (entries : List Entry) (place : ℕ) (parts : FeatureParts) : Type 0 where
  pub id : parts.id ≡ last_of None (map Some (numbers_of 1 entries))
  pub kind : kind_number parts.kind ≡ last_of 0 (numbers_of 3 entries)
  pub tags : StandBefore message from 2 place parts.tags
  pub geometry : StandBefore message from 4 place parts.geometry

-- the fields of a feature up to a place were passed: none of them has a fault, and the parts are theirs
pub record PassesParts (message : List ℕ) (from at : ℕ) (scan : FieldScan) (parts : FeatureParts) : Type 0 where
  pub entries : List Entry
  pub passed : FieldList message from entries at
  pub passes : HasScanned Feature scan entries
  pub gives : GivesParts message from entries at parts

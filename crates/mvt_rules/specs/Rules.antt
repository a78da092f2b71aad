-- What breaks the rules between the parts of a tile's record: its layers' versions and names (Mapbox Vector Tile
-- Specification 2.1, section 4.1), and the tags of its features (sections 4.2 and 4.4).
use Rattle.std.specs.Prelude.{◌≡◌, ◌≢◌, ℕ, ◌+◌, ◌*◌, ◌<◌, ◌≤◌, List, length, slice_get, Some}
use Rattle.mvt_rules.specs.Tile.{FeatureRecord, LayerRecord, TileRecord}
use Rattle.mvt_fault.specs.declared.tag.TagCode.{TagCode}
use Rattle.mvt_fault.specs.declared.tag.TagCode.TheVariants.{OddLength, NoKey, NoValue, Repeated}

-- the layer's version isn't 2 (section 4.1)
pub record OtherVersion (tile : TileRecord) (layer : ℕ) : Type 0 where
  pub layer_record : LayerRecord
  pub there : slice_get tile.layers layer ≡ Some layer_record
  pub other : layer_record.version ≢ 2

-- two layers have one name, the same byte for byte (section 4.1)
pub record SameName (tile : TileRecord) (first second : ℕ) : Type 0 where
  pub earlier : first < second
  pub layer_record : LayerRecord
  pub there : slice_get tile.layers first ≡ Some layer_record
  pub other : LayerRecord
  pub other_there : slice_get tile.layers second ≡ Some other
  pub same : layer_record.name ≡ other.name

-- Tags are pairs of an index of a key and an index of a value (section 4.4). A fault of tags is at a place in their list.

-- the list is no list of pairs; the place is the list's end
pub record OddTags (tags : List ℕ) (place : ℕ) : Type 0 where
  pub pairs : ℕ
  pub odd : length tags ≡ 2 * pairs + 1
  pub at_end : place ≡ length tags

-- in a list of pairs, this is the index of the key in one of them
pub record IsKeyAt (tags : List ℕ) (place key : ℕ) : Type 0 where
  pub pairs : ℕ
  pub even : length tags ≡ 2 * pairs
  pub pair : ℕ
  pub first : place ≡ 2 * pair
  pub here : slice_get tags place ≡ Some key

-- in a list of pairs, this is the index of the value in one of them
pub record IsValueAt (tags : List ℕ) (place value : ℕ) : Type 0 where
  pub pairs : ℕ
  pub even : length tags ≡ 2 * pairs
  pub pair : ℕ
  pub second : place ≡ 2 * pair + 1
  pub here : slice_get tags place ≡ Some value

-- the layer has not so many keys
pub record NoSuchKey (keys : ℕ) (tags : List ℕ) (place : ℕ) : Type 0 where
  pub key : ℕ
  pub here : IsKeyAt tags place key
  pub beyond : keys ≤ key

-- the layer has not so many values
pub record NoSuchValue (values : ℕ) (tags : List ℕ) (place : ℕ) : Type 0 where
  pub value : ℕ
  pub here : IsValueAt tags place value
  pub beyond : values ≤ value

-- the key of an earlier pair comes again
pub record KeyAgain (tags : List ℕ) (place : ℕ) : Type 0 where
  pub key : ℕ
  pub here : IsKeyAt tags place key
  pub earlier : ℕ
  pub before : earlier < place
  pub there : IsKeyAt tags earlier key

-- tags are wrong at a place, in a layer of so many keys and values (section 4.4)
abbrev pub TagsBreak : TagCode → ℕ → ℕ → List ℕ → ℕ → Type 0
TagsBreak OddLength keys values tags place = OddTags tags place
TagsBreak NoKey keys values tags place = NoSuchKey keys tags place
TagsBreak NoValue keys values tags place = NoSuchValue values tags place
TagsBreak Repeated keys values tags place = KeyAgain tags place

-- a feature of a tile, and the layer that it is in
pub record IsFeatureOf (tile : TileRecord) (layer feature : ℕ) (layer_record : LayerRecord) (feature_record : FeatureRecord) : Type 0 where
  pub in_tile : slice_get tile.layers layer ≡ Some layer_record
  pub in_layer : slice_get layer_record.features feature ≡ Some feature_record

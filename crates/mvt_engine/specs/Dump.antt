-- The JSON of a tile's record, with the keys of each object in the order of their bytes, and the answer of the program's `dump`.
use Rattle.std.specs.Prelude.{◌≡◌, ℕ, List, ◌++◌, codes, map, ℤ, pos, negsuc, Option, Some, None}
use Rattle.hex.specs.Hex.{encode_lower}
use Rattle.serde_json.specs.Data.{Data, null, boolean, number, negative, string, array, object, member, no_members}
use Rattle.serde_json.specs.View.{items_of}
use Rattle.serde_json.specs.Written.{compact_text}
use Rattle.mvt_fault.specs.Place.{IsLeast}
use Rattle.mvt_fault.specs.Text.{whole_number}
use Rattle.mvt_rules.specs.Parts.TrueFaults.{IsWireFault}
use Rattle.mvt_fault.specs.declared.fault.Fault.{Fault}
use Rattle.mvt_rules.specs.Tile.{FeatureRecord, ValueRecord, text, float, double, int, uint, sint, truth, LayerRecord, TileRecord, IsTile}
use Rattle.mvt_engine.specs.FaultLine.{fault_line}
use Rattle.mvt_engine.specs.declared.engine.Outcome.{Outcome}
use Rattle.mvt_engine.specs.declared.engine.Outcome.TheVariants.{Yes, No}

-- a list as an array, each member by itself
abbrev pub list_data : {A : Type 0} → (A → Data) → List A → Data
list_data member_data members = array (items_of (map member_data members))

-- a JSON number with a sign where it is below 0
abbrev pub signed : ℤ → Data
signed (pos n) = whole_number n
signed (negsuc n) = number (negative (negsuc n))

-- an object with one key
abbrev pub keyed : List ℕ → Data → Data
keyed key content = object (member key content no_members)

-- a value: its kind is the key; the bytes of floats are in their order, in lower case hexadecimal
abbrev pub value_data : ValueRecord → Data
value_data (text bytes) = keyed (codes "string") (string bytes)
value_data (float bytes) = keyed (codes "float") (string (encode_lower bytes))
value_data (double bytes) = keyed (codes "double") (string (encode_lower bytes))
value_data (int z) = keyed (codes "int") (signed z)
value_data (uint n) = keyed (codes "uint") (whole_number n)
value_data (sint z) = keyed (codes "sint") (signed z)
value_data (truth b) = keyed (codes "bool") (boolean b)

-- an id, or null where there is none
abbrev pub id_data : Option ℕ → Data
id_data (Some id) = whole_number id
id_data None = null

-- a feature
abbrev pub feature_data : FeatureRecord → Data
feature_data feature =
    object (member (codes "geometry") (list_data whole_number feature.geometry)
    (member (codes "id") (id_data feature.id)
    (member (codes "tags") (list_data whole_number feature.tags)
    (member (codes "type") (whole_number feature.kind)
    no_members))))

-- a layer
abbrev pub layer_data : LayerRecord → Data
layer_data layer =
    object (member (codes "extent") (whole_number layer.extent)
    (member (codes "features") (list_data feature_data layer.features)
    (member (codes "keys") (list_data string layer.keys)
    (member (codes "name") (string layer.name)
    (member (codes "values") (list_data value_data layer.values)
    (member (codes "version") (whole_number layer.version)
    no_members))))))

-- a tile
abbrev pub tile_data : TileRecord → Data
tile_data tile = keyed (codes "layers") (list_data layer_data tile.layers)

-- the text of a tile's dump, with no space
abbrev pub dump_text : TileRecord → List ℕ
dump_text tile = compact_text (tile_data tile)

-- The input is a tile, and the line is its dump, with its LF; or it has a wire fault, and the line is that of the one
-- of least place.
abbrev pub IsDumpAnswer : List ℕ → Outcome → List ℕ → Type 0
IsDumpAnswer input Yes line = (tile : TileRecord) × IsTile input tile × (line ≡ dump_text tile ++ codes "\n")
IsDumpAnswer input No line = (fault : Fault) × IsLeast (IsWireFault input) fault × (line ≡ fault_line fault)

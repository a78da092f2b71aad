-- The messages of a tile: which fields each knows, of what shape, and how often (Mapbox Vector Tile Specification 2.1,
-- section 4 and its vector_tile.proto).
use Rattle.std.specs.Prelude.{ℕ, ◌^◌, ◌==◌, ◌||◌, nat_le, Bool, true, false, if◌then◌else◌, List, [], ◌∷◌, Option, Some, None}
use Rattle.mvt_wire.specs.declared.schema.Message.{Message}
use Rattle.mvt_wire.specs.declared.schema.Message.TheVariants.{Tile, Layer, Value, Feature}
use Rattle.mvt_wire.specs.declared.schema.Shape.{Shape}
use Rattle.mvt_wire.specs.declared.schema.Shape.TheVariants.{Embedded, Text, FourBytes, EightBytes, Uint64, Uint32, GeometryType, Numbers}
use Rattle.mvt_wire.specs.declared.schema.Occurrence.{Occurrence}
use Rattle.mvt_wire.specs.declared.schema.Occurrence.TheVariants.{AnyNumber, AtLeastOnce, AtMostOnce, Once}
use Rattle.mvt_wire.specs.declared.schema.FieldRule.{FieldRule}

-- The fields that each message knows, by its name in vector_tile.proto. The program has these four tables too, and its
-- contracts compare them with these.

-- one line of a table: the fields of this number are of this shape, and so of its wire types (`is_own`), and occur this often
abbrev pub field_rule : ℕ → Shape → Occurrence → FieldRule
field_rule field_number shape occurrence = record { number = field_number; shape = shape; occurrence = occurrence }

-- the fields of a tile (section 4)
abbrev pub tile_fields : List FieldRule
tile_fields =
    field_rule 3 Embedded AnyNumber  -- layers
    ∷ []

-- the fields of a layer (section 4.1)
abbrev pub layer_fields : List FieldRule
layer_fields =
    field_rule 1 Text Once  -- name
    ∷ field_rule 2 Embedded AnyNumber  -- features
    ∷ field_rule 3 Text AnyNumber  -- keys
    ∷ field_rule 4 Embedded AnyNumber  -- values
    ∷ field_rule 5 Uint32 AtMostOnce  -- extent
    ∷ field_rule 15 Uint32 Once  -- version
    ∷ []

-- the fields of a value, of which it has just one (section 4.4)
abbrev pub value_fields : List FieldRule
value_fields =
    field_rule 1 Text AtMostOnce  -- string_value
    ∷ field_rule 2 FourBytes AtMostOnce  -- float_value
    ∷ field_rule 3 EightBytes AtMostOnce  -- double_value
    ∷ field_rule 4 Uint64 AtMostOnce  -- int_value
    ∷ field_rule 5 Uint64 AtMostOnce  -- uint_value
    ∷ field_rule 6 Uint64 AtMostOnce  -- sint_value
    ∷ field_rule 7 Uint64 AtMostOnce  -- bool_value
    ∷ []

-- the fields of a feature (section 4.2)
abbrev pub feature_fields : List FieldRule
feature_fields =
    field_rule 1 Uint64 AtMostOnce  -- id
    ∷ field_rule 2 Numbers AnyNumber  -- tags
    ∷ field_rule 3 GeometryType Once  -- type
    ∷ field_rule 4 Numbers AtLeastOnce  -- geometry
    ∷ []

-- the fields that a message knows
abbrev pub rules_of : Message → List FieldRule
rules_of Tile = tile_fields
rules_of Layer = layer_fields
rules_of Value = value_fields
rules_of Feature = feature_fields

-- the first rule for a field number
abbrev pub find_rule : List FieldRule → ℕ → Option FieldRule
find_rule [] field_number = None
find_rule (rule ∷ rules) field_number = if rule.number == field_number then Some rule else find_rule rules field_number

-- what a message requires of the fields of a number, where it knows the number
abbrev pub rule_of : Message → ℕ → Option FieldRule
rule_of message field_number = find_rule (rules_of message) field_number

-- the wire type is the shape's own
abbrev pub is_own : Shape → ℕ → Bool
is_own Embedded wire_type = wire_type == 2
is_own Text wire_type = wire_type == 2
is_own FourBytes wire_type = wire_type == 5
is_own EightBytes wire_type = wire_type == 1
is_own Uint64 wire_type = wire_type == 0
is_own Uint32 wire_type = wire_type == 0
is_own GeometryType wire_type = wire_type == 0
is_own Numbers wire_type = (wire_type == 0) || (wire_type == 2)

-- a number stated by a field of the shape is out of its range
abbrev pub is_out_of_range : Shape → ℕ → Bool
is_out_of_range Embedded n = false
is_out_of_range Text n = false
is_out_of_range FourBytes n = false
is_out_of_range EightBytes n = false
is_out_of_range Uint64 n = false
is_out_of_range Uint32 n = nat_le (2 ^ 32) n
is_out_of_range GeometryType n = nat_le 4 n
is_out_of_range Numbers n = nat_le (2 ^ 32) n

-- the field occurs at most once in its message
abbrev pub is_singular : Occurrence → Bool
is_singular AnyNumber = false
is_singular AtLeastOnce = false
is_singular AtMostOnce = true
is_singular Once = true

-- the field occurs at least once in its message
abbrev pub is_required : Occurrence → Bool
is_required AnyNumber = false
is_required AtLeastOnce = true
is_required AtMostOnce = false
is_required Once = true

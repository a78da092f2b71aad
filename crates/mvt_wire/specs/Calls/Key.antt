-- Field keys, as the reader keeps them.
use Rattle.std.specs.Prelude.{ℕ, List}
use Rattle.mvt_wire.specs.Field.{IsKey}
use Rattle.mvt_wire.specs.declared.key.Key.{Key}
use Rattle.mvt_wire.specs.declared.key.WireType.{WireType}
use Rattle.mvt_wire.specs.declared.key.WireType.TheVariants.{Varint, Fixed64, Bytes, Fixed32}

-- the number of a wire type
abbrev pub wire_type_number : WireType → ℕ
wire_type_number Varint = 0
wire_type_number Fixed64 = 1
wire_type_number Bytes = 2
wire_type_number Fixed32 = 5

-- the key is in the bytes, between its two places
abbrev pub IsKeyOf : List ℕ → Key → Type 0
IsKeyOf bytes key = IsKey bytes key.at key.end key.number (wire_type_number key.wire_type)

-- The JSON objects of faults, and their texts.
use Rattle.std.specs.Fmt.{signed_decimal}
use Rattle.std.specs.Prelude.{◌≡◌, ℕ, ◌^◌, ◌<◌, List, Some, codes, IsUtf8, ℤ, pos, neg_ℤ, ◌≤ℤ◌, ◌<ℤ◌}
use Rattle.serde_json.specs.Data.{Data, number, unsigned, string, object, member, no_members}
use Rattle.serde_json.specs.Read.{read}
use Rattle.serde_json.specs.Written.{compact_text}
use Rattle.mvt_wire.specs.Code.{code_of}
use Rattle.mvt_wire.specs.declared.cause.WireCode.{WireCode}
use Rattle.mvt_wire.specs.declared.scope.Scope.{Scope}
use Rattle.mvt_wire.specs.declared.scope.Scope.TheVariants.{Tile, Layer, Value, Feature}
use Rattle.mvt_fault.specs.declared.fault.Fault.{Fault}
use Rattle.mvt_fault.specs.declared.fault.Fault.TheVariants.{Wire, Version, Name, Tag, Command, Ring, Meeting, Outside, HoleInHole, InPolygon}
use Rattle.mvt_fault.specs.declared.ring.RingEdge.{RingEdge}
use Rattle.mvt_fault.specs.Code.{tag_code, command_code, ring_code}

-- a JSON number with no sign, fraction or exponent
abbrev pub whole_number : ℕ → Data
whole_number n = number (unsigned n)

-- the object of a wire fault: the scope's name and ordinals, and the fault's place, code and field
abbrev pub wire_data : WireCode → Scope → ℕ → ℕ → Data
wire_data code Tile at field =
    object (member (codes "at") (whole_number at)
    (member (codes "code") (whole_number (code_of code))
    (member (codes "field") (whole_number field)
    (member (codes "scope") (string (codes "tile"))
    no_members))))
wire_data code (Layer layer) at field =
    object (member (codes "at") (whole_number at)
    (member (codes "code") (whole_number (code_of code))
    (member (codes "field") (whole_number field)
    (member (codes "layer") (whole_number layer)
    (member (codes "scope") (string (codes "layer"))
    no_members)))))
wire_data code (Value layer value) at field =
    object (member (codes "at") (whole_number at)
    (member (codes "code") (whole_number (code_of code))
    (member (codes "field") (whole_number field)
    (member (codes "layer") (whole_number layer)
    (member (codes "scope") (string (codes "value"))
    (member (codes "value") (whole_number value)
    no_members))))))
wire_data code (Feature layer feature) at field =
    object (member (codes "at") (whole_number at)
    (member (codes "code") (whole_number (code_of code))
    (member (codes "feature") (whole_number feature)
    (member (codes "field") (whole_number field)
    (member (codes "layer") (whole_number layer)
    (member (codes "scope") (string (codes "feature"))
    no_members))))))

-- the object of a layer whose version isn't 2
abbrev pub version_data : ℕ → Data
version_data layer =
    object (member (codes "code") (whole_number 201)
    (member (codes "layer") (whole_number layer)
    no_members))

-- the object of two layers of one name
abbrev pub name_data : ℕ → ℕ → Data
name_data first second =
    object (member (codes "code") (whole_number 202)
    (member (codes "first") (whole_number first)
    (member (codes "second") (whole_number second)
    no_members)))

-- the object of a fault in the tags or the geometry of a feature: its code's number, and the place in the list
abbrev pub index_data : ℕ → ℕ → ℕ → ℕ → Data
index_data code layer feature index =
    object (member (codes "code") (whole_number code)
    (member (codes "feature") (whole_number feature)
    (member (codes "index") (whole_number index)
    (member (codes "layer") (whole_number layer)
    no_members))))

-- the object of a fault of a ring
abbrev pub ring_data : ℕ → ℕ → ℕ → ℕ → Data
ring_data code layer feature ring =
    object (member (codes "code") (whole_number code)
    (member (codes "feature") (whole_number feature)
    (member (codes "layer") (whole_number layer)
    (member (codes "ring") (whole_number ring)
    no_members))))

-- the object of an edge
abbrev pub edge_data : RingEdge → Data
edge_data ring_edge =
    object (member (codes "edge") (whole_number ring_edge.edge)
    (member (codes "ring") (whole_number ring_edge.ring)
    no_members))

-- a whole number that may be larger than JSON readers take: its decimal digits as a string
abbrev pub digits : ℤ → Data
digits z = string (signed_decimal z)

-- the object of two edges that meet, from the values of the edges and of the point's numbers
abbrev pub meeting_parts : ℕ → ℕ → ℕ → Data → Data → Data → Data → Data → Data
meeting_parts layer feature polygon first second w x y =
    object (member (codes "code") (whole_number 504)
    (member (codes "feature") (whole_number feature)
    (member (codes "first") first
    (member (codes "layer") (whole_number layer)
    (member (codes "polygon") (whole_number polygon)
    (member (codes "second") second
    (member (codes "w") w
    (member (codes "x") x
    (member (codes "y") y
    no_members)))))))))

-- the same of the edges and numbers themselves
abbrev pub meeting_data : ℕ → ℕ → ℕ → RingEdge → RingEdge → ℤ → ℤ → ℤ → Data
meeting_data layer feature polygon first second x y w =
    meeting_parts layer feature polygon (edge_data first) (edge_data second) (digits w) (digits x) (digits y)

-- the object of a hole's vertex that isn't inside the exterior
abbrev pub outside_data : ℕ → ℕ → ℕ → ℕ → ℕ → Data
outside_data layer feature polygon ring vertex =
    object (member (codes "code") (whole_number 505)
    (member (codes "feature") (whole_number feature)
    (member (codes "layer") (whole_number layer)
    (member (codes "polygon") (whole_number polygon)
    (member (codes "ring") (whole_number ring)
    (member (codes "vertex") (whole_number vertex)
    no_members))))))

-- the object of a hole's vertex that is inside another hole
abbrev pub hole_in_hole_data : ℕ → ℕ → ℕ → ℕ → ℕ → ℕ → Data
hole_in_hole_data layer feature polygon ring vertex other =
    object (member (codes "code") (whole_number 506)
    (member (codes "feature") (whole_number feature)
    (member (codes "layer") (whole_number layer)
    (member (codes "other") (whole_number other)
    (member (codes "polygon") (whole_number polygon)
    (member (codes "ring") (whole_number ring)
    (member (codes "vertex") (whole_number vertex)
    no_members)))))))

-- the object of an exterior's vertex that is inside another polygon
abbrev pub in_polygon_data : ℕ → ℕ → ℕ → ℕ → ℕ → Data
in_polygon_data layer feature polygon vertex other =
    object (member (codes "code") (whole_number 507)
    (member (codes "feature") (whole_number feature)
    (member (codes "layer") (whole_number layer)
    (member (codes "other") (whole_number other)
    (member (codes "polygon") (whole_number polygon)
    (member (codes "vertex") (whole_number vertex)
    no_members))))))

-- the object of a fault
abbrev pub data_of : Fault → Data
data_of (Wire code scope at field) = wire_data code scope at field
data_of (Version layer) = version_data layer
data_of (Name first second) = name_data first second
data_of (Tag code layer feature index) = index_data (tag_code code) layer feature index
data_of (Command code layer feature index) = index_data (command_code code) layer feature index
data_of (Ring code layer feature ring) = ring_data (ring_code code) layer feature ring
data_of (Meeting layer feature polygon first second x y w) = meeting_data layer feature polygon first second x y w
data_of (Outside layer feature polygon ring vertex) = outside_data layer feature polygon ring vertex
data_of (HoleInHole layer feature polygon ring vertex other) = hole_in_hole_data layer feature polygon ring vertex other
data_of (InPolygon layer feature polygon vertex other) = in_polygon_data layer feature polygon vertex other

-- a fault's text: its object with no space
abbrev pub text_of : Fault → List ℕ
text_of f = compact_text (data_of f)

-- a number of a point has 128 bits, its sign among them
abbrev pub HasWidth : ℤ → Type 0
HasWidth z = (neg_ℤ (pos (2 ^ 127)) ≤ℤ z) × (z <ℤ pos (2 ^ 127))

-- a field's number has 32 bits, the numbers of a point 128; offsets and ordinals have 64, as any whole number that is read
abbrev pub IsInRange : Fault → Type 0
IsInRange (Wire code scope at field) = field < 2 ^ 32
IsInRange (Meeting layer feature polygon first second x y w) = HasWidth x × HasWidth y × HasWidth w
IsInRange fault = Unit {0}

-- the bytes are a text of this fault, as JSON is read
pub record Reads (bytes : List ℕ) (f : Fault) : Type 0 where
  pub utf8 : IsUtf8 bytes
  pub value : read bytes ≡ Some (data_of f)
  pub in_range : IsInRange f

-- No two faults have one object, and a value stands for one fault at most.
use Rattle.std.proofs.Common.{◌≡◌, ℕ, ◌≤◌, ℤ, List, [], if◌then◌else◌, nat_lt, is_some, Some, option_and_then, unwrap_or, codes, lit≤, String, Global, string_bytes, false, refl, sym, ap, subst, ◌∙◌}
use Rattle.std.specs.Fmt.{signed_decimal}
use Rattle.std.specs.Str.Parse.{signed_digits_value}
use Rattle.std.proofs.lemmas.Str.{IsUtf8-string_bytes}
use Rattle.serde_json.specs.Data.{Data, depth, null, string}
use Rattle.serde_json.specs.Find.{get, as_number, as_u64, as_str}
use Rattle.serde_json.specs.Read.{read, max_depth}
use Rattle.serde_json.specs.Written.{has_float}
use Rattle.mvt_fault.specs.Reading.{StandsFor}
use Rattle.mvt_fault.specs.Text.{data_of, edge_data, meeting_parts, IsInRange, Reads}
use Rattle.mvt_wire.specs.declared.scope.Scope.{Scope}
use Rattle.mvt_wire.specs.declared.scope.Scope.TheVariants.{Tile, Layer, Value, Feature}
use Rattle.mvt_fault.specs.declared.fault.Fault.{Fault}
use Rattle.mvt_fault.specs.declared.fault.Fault.TheVariants.{Wire, Version, Name, Tag, Command, Ring, Meeting, Outside, HoleInHole, InPolygon}
use Rattle.mvt_fault.specs.declared.tag.TagCode.TheVariants.{OddLength}
use Rattle.mvt_fault.specs.declared.command.CommandCode.TheVariants.{OtherCommand}
use Rattle.mvt_fault.specs.declared.ring.RingEdge.{RingEdge}
use Rattle.mvt_fault.proofs.Causes.{wire_code_at, wire_code_at-code_of, tag_code_at, command_code_at, ring_code_at, ring_code_at-ring_code}
use Rattle.mvt_fault.proofs.SignedDecimals.{Writes-signed_decimal, signed_decimal-Writes}

-- the whole number at a key, or 0
abbrev number_at : List ℕ → Data → ℕ
number_at key d = unwrap_or (option_and_then as_u64 (option_and_then as_number (get key d))) 0

-- the whole number whose digits are the string at a key, or 0
abbrev digits_at : List ℕ → Data → ℤ
digits_at key d = signed_digits_value 10 (unwrap_or (option_and_then as_str (get key d)) [])

-- the edge at a key, of zeros where there is none
abbrev edge_at : List ℕ → Data → RingEdge
edge_at key d = let it = unwrap_or (get key d) null in record { ring = number_at (codes "ring") it; edge = number_at (codes "edge") it }

-- the scope with these ordinals
abbrev scope_in : Data → Scope
scope_in d =
    let layer = number_at (codes "layer") d in
    if is_some (get (codes "feature") d) then Feature layer (number_at (codes "feature") d) else
    (if is_some (get (codes "value") d) then Value layer (number_at (codes "value") d) else
    (if is_some (get (codes "layer") d) then Layer layer else Tile))

-- a wire fault with this object, where there is one
abbrev wire_fault_in : Data → Fault
wire_fault_in d =
    Wire (wire_code_at (number_at (codes "code") d)) (scope_in d) (number_at (codes "at") d)
    (number_at (codes "field") d)

-- a fault in a feature with this object, where there is one: of its commands from 401 on, else of its tags
abbrev feature_fault_in : Data → Fault
feature_fault_in d =
    let code = number_at (codes "code") d in
    if nat_lt 400 code
    then Command (command_code_at code) (number_at (codes "layer") d) (number_at (codes "feature") d) (number_at (codes "index") d)
    else Tag (tag_code_at code) (number_at (codes "layer") d) (number_at (codes "feature") d) (number_at (codes "index") d)

-- a fault of a ring with this object, where there is one
abbrev ring_fault_in : Data → Fault
ring_fault_in d =
    Ring (ring_code_at (number_at (codes "code") d)) (number_at (codes "layer") d) (number_at (codes "feature") d)
    (number_at (codes "ring") d)

-- a meeting of edges with this object, where there is one
abbrev meeting_in : Data → Fault
meeting_in d =
    Meeting (number_at (codes "layer") d) (number_at (codes "feature") d) (number_at (codes "polygon") d)
    (edge_at (codes "first") d) (edge_at (codes "second") d) (digits_at (codes "x") d) (digits_at (codes "y") d) (digits_at (codes "w") d)

-- a fault of a polygon's vertex with this object, where there is one: of a hole, or of the exterior
abbrev vertex_fault_in : Data → Fault
vertex_fault_in d =
    let layer = number_at (codes "layer") d in
    let feature = number_at (codes "feature") d in
    let polygon = number_at (codes "polygon") d in
    let ring = number_at (codes "ring") d in
    let vertex = number_at (codes "vertex") d in
    if is_some (get (codes "ring") d)
    then (if is_some (get (codes "other") d)
    then HoleInHole layer feature polygon ring vertex (number_at (codes "other") d)
    else Outside layer feature polygon ring vertex)
    else InPolygon layer feature polygon vertex (number_at (codes "other") d)

-- a fault with this object, where there is one
abbrev fault_in : Data → Fault
fault_in d =
    if is_some (get (codes "scope") d) then wire_fault_in d else
    (if is_some (get (codes "index") d) then feature_fault_in d else
    (if is_some (get (codes "vertex") d) then vertex_fault_in d else
    (if is_some (get (codes "ring") d) then ring_fault_in d else
    (if is_some (get (codes "polygon") d) then meeting_in d else
    (if is_some (get (codes "second") d) then Name (number_at (codes "first") d) (number_at (codes "second") d) else
    Version (number_at (codes "layer") d))))))

-- the fault follows from its object
fault_in-StandsFor : (f : Fault) (d : Data) → StandsFor f d → fault_in d ≡ f
fault_in-StandsFor (Wire code Tile at field) d stands = ap fault_in stands ∙ ap (λ c. Wire c Tile at field) (wire_code_at-code_of code)
fault_in-StandsFor (Wire code scope at field) d stands = ap fault_in stands ∙ ap (λ c. Wire c scope at field) (wire_code_at-code_of code)
fault_in-StandsFor (Tag OddLength layer feature index) d stands = ap fault_in stands
fault_in-StandsFor (Command OtherCommand layer feature index) d stands = ap fault_in stands
fault_in-StandsFor (Ring code layer feature ring) d stands = ap fault_in stands ∙ ap (λ c. Ring c layer feature ring) (ring_code_at-ring_code code)
fault_in-StandsFor (Meeting layer feature polygon first second x y w) d stands =
    ap fault_in stands.object ∙ (λ i. Meeting layer feature polygon first second (stands.writes_x.1 i) (stands.writes_y.1 i) (stands.writes_w.1 i))
fault_in-StandsFor f d stands = ap fault_in stands

-- a value stands for one fault at most
pub StandsFor-unique : (d : Data) (f g : Fault) → StandsFor f d → StandsFor g d → f ≡ g
StandsFor-unique d f g here there = sym (fault_in-StandsFor f d here) ∙ fault_in-StandsFor g d there

-- the object of a fault stands for it
pub StandsFor-data_of : (f : Fault) → IsInRange f → StandsFor f (data_of f)
StandsFor-data_of (Meeting layer feature polygon first second x y w) in_range = record {
  x_text = signed_decimal x;
  y_text = signed_decimal y;
  w_text = signed_decimal w;
  writes_x = Writes-signed_decimal x in_range.0;
  writes_y = Writes-signed_decimal y in_range.1;
  writes_w = Writes-signed_decimal w in_range.2;
  object = refl;
}
StandsFor-data_of f in_range = refl

-- what stands for a fault in range is its object
pub data_of-StandsFor : (f : Fault) (d : Data) → StandsFor f d → IsInRange f → d ≡ data_of f
data_of-StandsFor (Meeting layer feature polygon first second x y w) d stands in_range =
    let same_x = signed_decimal-Writes stands.x_text x stands.writes_x in_range.0 in
    let same_y = signed_decimal-Writes stands.y_text y stands.writes_y in_range.1 in
    let same_w = signed_decimal-Writes stands.w_text w stands.writes_w in_range.2 in
    stands.object ∙ sym (λ i. meeting_parts layer feature polygon (edge_data first) (edge_data second) (string (same_w i)) (string (same_x i)) (string (same_y i)))
data_of-StandsFor f d stands in_range = stands

-- the value is shallow enough to be read, and has no float, whose text isn't known
abbrev pub IsPlain : Data → Type 0
IsPlain d = (depth d ≤ max_depth) × (has_float d ≡ false)

-- the object of a fault is plain
pub IsPlain-StandsFor : (f : Fault) (d : Data) → StandsFor f d → IsPlain d
IsPlain-StandsFor (Wire code Tile at field) d stands = subst IsPlain (sym stands) (lit≤ tt, refl)
IsPlain-StandsFor (Meeting layer feature polygon first second x y w) d stands = subst IsPlain (sym stands.object) (lit≤ tt, refl)
IsPlain-StandsFor f d stands = subst IsPlain (sym stands) (lit≤ tt, refl)

-- what reads as a fault's object stands for that fault
pub Reads-string_bytes : (f : Fault) (d : Data) (s : String Global) → d ≡ data_of f → IsInRange f
    → (depth d ≤ max_depth → read (string_bytes s) ≡ Some d) → Reads (string_bytes s) f
Reads-string_bytes f d s same in_range back =
    let stands : StandsFor f d = subst (StandsFor f) (sym same) (StandsFor-data_of f in_range) in
    record {
      utf8 = IsUtf8-string_bytes s;
      value = back (IsPlain-StandsFor f d stands).0 ∙ ap Some same;
      in_range = in_range;
    }

-- a text stands for one fault at most
pub Reads-unique : (bytes : List ℕ) (f g : Fault) → Reads bytes f → Reads bytes g → g ≡ f
Reads-unique bytes f g first second =
    let same : data_of g ≡ data_of f = cc (first.value, second.value) in
    StandsFor-unique (data_of f) g f (subst (StandsFor g) same (StandsFor-data_of g second.in_range)) (StandsFor-data_of f first.in_range)

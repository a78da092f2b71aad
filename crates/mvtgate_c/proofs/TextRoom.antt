-- The longest text of a fault.
use Rattle.std.proofs.Common.{◌≡◌, ℕ, suc, ◌+◌, ◌^◌, ◌<◌, ◌≤◌, ℤ, pos, negsuc, true, List, [], ◌∷◌, ◌++◌, length, codes, refl, ap, arith, length-append, lit≤, lit<}
use Rattle.std.specs.Fmt.{decimal}
use Rattle.std.specs.Str.Parse.{AllDigits}
use Rattle.std.proofs.lemmas.Fmt.{length-decimal-le_wide, decimal_is_IsNumeral_wide}
use Rattle.std.proofs.lemmas.Int.{ints}
use Rattle.std.proofs.lemmas.Str.Parse.{digit_from_value}
use Rattle.json.specs.Print.{escape, escape_byte, quoted}
use Rattle.serde_json.specs.Data.{Data, Members, string, object, member, no_members}
use Rattle.serde_json.specs.Written.{compact_text, members_text}
use Rattle.mvt_wire.specs.Code.{code_of}
use Rattle.mvt_wire.specs.declared.cause.WireCode.{WireCode}
use Rattle.mvt_wire.specs.declared.cause.WireCode.TheVariants.{Ends, TooLong, BadNumber, BadWireType, PastEnd, OtherType, Again, Missing, OneField, NotUtf8, OutOfRange}
use Rattle.mvt_wire.specs.declared.scope.Scope.TheVariants.{Tile, Layer, Value, Feature}
use Rattle.mvt_fault.specs.Code.{tag_code, command_code, ring_code}
use Rattle.mvt_fault.specs.Text.{HasWidth, digits, edge_data, text_of, whole_number}
use Rattle.mvt_fault.specs.declared.fault.Fault.{Fault}
use Rattle.mvt_fault.specs.declared.fault.Fault.TheVariants.{Wire, Version, Name, Tag, Command, Ring, Meeting, Outside, HoleInHole, InPolygon}
use Rattle.mvt_fault.specs.declared.command.CommandCode.{CommandCode}
use Rattle.mvt_fault.specs.declared.command.CommandCode.TheVariants.{OtherCommand, OtherCount, Unfinished, GreatestParameter, OutOfBounds, NoStep}
use Rattle.mvt_fault.specs.declared.ring.RingCode.{RingCode}
use Rattle.mvt_fault.specs.declared.ring.RingCode.TheVariants.{EndsAtItsBeginning, NoArea, BeginsWithHole}
use Rattle.mvt_fault.specs.declared.ring.RingEdge.{RingEdge}
use Rattle.mvt_fault.specs.declared.tag.TagCode.{TagCode}
use Rattle.mvt_fault.specs.declared.tag.TagCode.TheVariants.{OddLength, NoKey, NoValue, Repeated}
use Rattle.mvtgate_c.specs.Calls.TextRoom.{IsInMemory, IsWord, IsEdgeOfWords}
use Rattle.mvtgate_c.specs.TextRoom.{longest_text}

-- a digit stands in a string as it is
escape_digit : (c : ℕ) → 48 ≤ c → c ≤ 57 → escape_byte c ≡ c ∷ []
unfolding escape_byte
escape_digit c low high = search (arith, low, high)

length_escape : (ds : List ℕ) → AllDigits 10 ds → length (escape ds) ≡ length ds
length_escape [] all = refl
length_escape (c ∷ cs) all =
    let digit = digit_from_value c all.0 in
    rw (escape_digit c digit.0 digit.1) (ap suc (length_escape cs all.1))

length_word : (n : ℕ) → IsWord n → length (compact_text (whole_number n)) ≤ 20
length_word n is = length-decimal-le_wide 20 n (omega arith) (omega (arith, is)) (omega (arith, is))

length_minus : (ds : List ℕ) → length (escape ds) ≡ length ds → length ds ≤ 39 → length (quoted (45 ∷ ds)) ≤ 42
unfolding escape_byte
length_minus ds same short = omega (arith, same, short, length-append (escape ds) (34 ∷ []))

length_plus : (ds : List ℕ) → length (escape ds) ≡ length ds → length ds ≤ 39 → length (quoted ds) ≤ 42
length_plus ds same short = omega (arith, same, short, length-append (escape ds) (34 ∷ []))

length_digits : (z : ℤ) → HasWidth z → length (compact_text (digits z)) ≤ 42
length_digits (pos n) width =
    let below : n < 10 ^ 39 = omega (arith, ints, width) in
    let wide : n < 10 ^ 64 = omega (arith, below) in
    let written = decimal_is_IsNumeral_wide n wide in
    length_plus (decimal n) (length_escape (decimal n) written.0.1) (length-decimal-le_wide 39 n (omega arith) below wide)
length_digits (negsuc n) width =
    let below : suc n < 10 ^ 39 = omega (arith, ints, width) in
    let wide : suc n < 10 ^ 64 = omega (arith, below) in
    let written = decimal_is_IsNumeral_wide (suc n) wide in
    length_minus (decimal (suc n)) (length_escape (decimal (suc n)) written.0.1) (length-decimal-le_wide 39 (suc n) (omega arith) below wide)

-- a code has three digits
length_code : (n : ℕ) → n < 1000 → length (compact_text (whole_number n)) ≤ 3
length_code n is = length-decimal-le_wide 3 n (omega arith) (omega (arith, is)) (omega (arith, is))

length_field : (n : ℕ) → n < 2 ^ 32 → length (compact_text (whole_number n)) ≤ 10
length_field n is = length-decimal-le_wide 10 n (omega arith) (omega (arith, is)) (omega (arith, is))

-- the members after the first one, with the closing bracket
record MoreFit (ms : Members) (n : ℕ) : Type 0 where
  fits : length (members_text true ms) ≤ n

-- an object, by its first member and the others
first : (k : List ℕ) (d : Data) (ms : Members) (a b c : ℕ) → length (quoted k) ≤ a → length (compact_text d) ≤ b → MoreFit ms c
    → length (compact_text (object (member k d ms))) ≤ a + 2 + (b + c)
first k d ms a b c of_key of_value more =
    omega (arith, of_key, of_value, more.fits, length-append (quoted k) (58 ∷ (compact_text d ++ members_text true ms)), length-append (compact_text d) (members_text true ms))

next : (k : List ℕ) (d : Data) (ms : Members) (a b c : ℕ) → length (quoted k) ≤ a → length (compact_text d) ≤ b → MoreFit ms c
    → MoreFit (member k d ms) (a + 2 + (b + c))
next k d ms a b c of_key of_value more = record {
  fits = omega (arith, of_key, of_value, more.fits, length-append (quoted k) (58 ∷ (compact_text d ++ members_text true ms)), length-append (compact_text d) (members_text true ms));
}

last : MoreFit no_members 1
last = record { fits = lit≤ tt }

key_at : length (quoted (codes "at")) ≤ 4
unfolding escape_byte
key_at = lit≤ tt

key_code : length (quoted (codes "code")) ≤ 6
unfolding escape_byte
key_code = lit≤ tt

key_field : length (quoted (codes "field")) ≤ 7
unfolding escape_byte
key_field = lit≤ tt

key_scope : length (quoted (codes "scope")) ≤ 7
unfolding escape_byte
key_scope = lit≤ tt

key_layer : length (quoted (codes "layer")) ≤ 7
unfolding escape_byte
key_layer = lit≤ tt

key_value : length (quoted (codes "value")) ≤ 7
unfolding escape_byte
key_value = lit≤ tt

key_feature : length (quoted (codes "feature")) ≤ 9
unfolding escape_byte
key_feature = lit≤ tt

key_first : length (quoted (codes "first")) ≤ 7
unfolding escape_byte
key_first = lit≤ tt

key_second : length (quoted (codes "second")) ≤ 8
unfolding escape_byte
key_second = lit≤ tt

key_index : length (quoted (codes "index")) ≤ 7
unfolding escape_byte
key_index = lit≤ tt

key_ring : length (quoted (codes "ring")) ≤ 6
unfolding escape_byte
key_ring = lit≤ tt

key_edge : length (quoted (codes "edge")) ≤ 6
unfolding escape_byte
key_edge = lit≤ tt

key_polygon : length (quoted (codes "polygon")) ≤ 9
unfolding escape_byte
key_polygon = lit≤ tt

key_w : length (quoted (codes "w")) ≤ 3
unfolding escape_byte
key_w = lit≤ tt

key_x : length (quoted (codes "x")) ≤ 3
unfolding escape_byte
key_x = lit≤ tt

key_y : length (quoted (codes "y")) ≤ 3
unfolding escape_byte
key_y = lit≤ tt

key_vertex : length (quoted (codes "vertex")) ≤ 8
unfolding escape_byte
key_vertex = lit≤ tt

key_other : length (quoted (codes "other")) ≤ 7
unfolding escape_byte
key_other = lit≤ tt

text_tile : length (compact_text (string (codes "tile"))) ≤ 6
unfolding escape_byte
text_tile = lit≤ tt

text_layer : length (compact_text (string (codes "layer"))) ≤ 7
unfolding escape_byte
text_layer = lit≤ tt

text_value : length (compact_text (string (codes "value"))) ≤ 7
unfolding escape_byte
text_value = lit≤ tt

text_feature : length (compact_text (string (codes "feature"))) ≤ 9
unfolding escape_byte
text_feature = lit≤ tt

wire_code : (code : WireCode) → code_of code < 1000
wire_code Ends = lit< tt
wire_code TooLong = lit< tt
wire_code BadNumber = lit< tt
wire_code BadWireType = lit< tt
wire_code PastEnd = lit< tt
wire_code OtherType = lit< tt
wire_code Again = lit< tt
wire_code Missing = lit< tt
wire_code OneField = lit< tt
wire_code NotUtf8 = lit< tt
wire_code OutOfRange = lit< tt

of_tags : (code : TagCode) → tag_code code < 1000
of_tags OddLength = lit< tt
of_tags NoKey = lit< tt
of_tags NoValue = lit< tt
of_tags Repeated = lit< tt

of_commands : (code : CommandCode) → command_code code < 1000
of_commands OtherCommand = lit< tt
of_commands OtherCount = lit< tt
of_commands Unfinished = lit< tt
of_commands GreatestParameter = lit< tt
of_commands OutOfBounds = lit< tt
of_commands NoStep = lit< tt

of_rings : (code : RingCode) → ring_code code < 1000
of_rings EndsAtItsBeginning = lit< tt
of_rings NoArea = lit< tt
of_rings BeginsWithHole = lit< tt

length_edge : (edge : RingEdge) → IsEdgeOfWords edge → length (compact_text (edge_data edge)) ≤ 57
length_edge edge is = first (codes "edge") (whole_number edge.edge) _ 6 20 29 key_edge (length_word edge.edge is.1) (next (codes "ring") (whole_number edge.ring) _ 6 20 1 key_ring (length_word edge.ring is.0) last)

up_to : (m n : ℕ) → n ≤ m → m ≤ longest_text → n ≤ longest_text
up_to m n low high = omega (arith, low, high)

-- no fault in memory has a longer text
pub text_fits : (f : Fault) → IsInMemory f → length (text_of f) ≤ longest_text
text_fits (Wire code Tile at field) is =
    up_to 72 _ (first (codes "at") (whole_number at) _ 4 20 46 key_at (length_word at is.1) (next (codes "code") (whole_number (code_of code)) _ 6 3 35 key_code (length_code (code_of code) (wire_code code)) (next (codes "field") (whole_number field) _ 7 10 16 key_field (length_field field is.2) (next (codes "scope") (string (codes "tile")) _ 7 6 1 key_scope text_tile last)))) (lit≤ tt)
text_fits (Wire code (Layer layer) at field) is =
    up_to 102 _ (first (codes "at") (whole_number at) _ 4 20 76 key_at (length_word at is.1) (next (codes "code") (whole_number (code_of code)) _ 6 3 65 key_code (length_code (code_of code) (wire_code code)) (next (codes "field") (whole_number field) _ 7 10 46 key_field (length_field field is.2) (next (codes "layer") (whole_number layer) _ 7 20 17 key_layer (length_word layer is.0) (next (codes "scope") (string (codes "layer")) _ 7 7 1 key_scope text_layer last))))) (lit≤ tt)
text_fits (Wire code (Value layer value) at field) is =
    up_to 131 _ (first (codes "at") (whole_number at) _ 4 20 105 key_at (length_word at is.1) (next (codes "code") (whole_number (code_of code)) _ 6 3 94 key_code (length_code (code_of code) (wire_code code)) (next (codes "field") (whole_number field) _ 7 10 75 key_field (length_field field is.2) (next (codes "layer") (whole_number layer) _ 7 20 46 key_layer (length_word layer is.0.0) (next (codes "scope") (string (codes "value")) _ 7 7 30 key_scope text_value (next (codes "value") (whole_number value) _ 7 20 1 key_value (length_word value is.0.1) last)))))) (lit≤ tt)
text_fits (Wire code (Feature layer feature) at field) is =
    up_to 135 _ (first (codes "at") (whole_number at) _ 4 20 109 key_at (length_word at is.1) (next (codes "code") (whole_number (code_of code)) _ 6 3 98 key_code (length_code (code_of code) (wire_code code)) (next (codes "feature") (whole_number feature) _ 9 20 67 key_feature (length_word feature is.0.1) (next (codes "field") (whole_number field) _ 7 10 48 key_field (length_field field is.2) (next (codes "layer") (whole_number layer) _ 7 20 19 key_layer (length_word layer is.0.0) (next (codes "scope") (string (codes "feature")) _ 7 9 1 key_scope text_feature last)))))) (lit≤ tt)
text_fits (Version layer) is =
    up_to 41 _ (first (codes "code") (whole_number 201) _ 6 3 30 key_code (length_code 201 (lit< tt)) (next (codes "layer") (whole_number layer) _ 7 20 1 key_layer (length_word layer is) last)) (lit≤ tt)
text_fits (Name one other) is =
    up_to 71 _ (first (codes "code") (whole_number 202) _ 6 3 60 key_code (length_code 202 (lit< tt)) (next (codes "first") (whole_number one) _ 7 20 31 key_first (length_word one is.0) (next (codes "second") (whole_number other) _ 8 20 1 key_second (length_word other is.1) last))) (lit≤ tt)
text_fits (Tag code layer feature index) is =
    up_to 101 _ (first (codes "code") (whole_number (tag_code code)) _ 6 3 90 key_code (length_code (tag_code code) (of_tags code)) (next (codes "feature") (whole_number feature) _ 9 20 59 key_feature (length_word feature is.1) (next (codes "index") (whole_number index) _ 7 20 30 key_index (length_word index is.2) (next (codes "layer") (whole_number layer) _ 7 20 1 key_layer (length_word layer is.0) last)))) (lit≤ tt)
text_fits (Command code layer feature index) is =
    up_to 101 _ (first (codes "code") (whole_number (command_code code)) _ 6 3 90 key_code (length_code (command_code code) (of_commands code)) (next (codes "feature") (whole_number feature) _ 9 20 59 key_feature (length_word feature is.1) (next (codes "index") (whole_number index) _ 7 20 30 key_index (length_word index is.2) (next (codes "layer") (whole_number layer) _ 7 20 1 key_layer (length_word layer is.0) last)))) (lit≤ tt)
text_fits (Ring code layer feature ring) is =
    up_to 100 _ (first (codes "code") (whole_number (ring_code code)) _ 6 3 89 key_code (length_code (ring_code code) (of_rings code)) (next (codes "feature") (whole_number feature) _ 9 20 58 key_feature (length_word feature is.1) (next (codes "layer") (whole_number layer) _ 7 20 29 key_layer (length_word layer is.0) (next (codes "ring") (whole_number ring) _ 6 20 1 key_ring (length_word ring is.2) last)))) (lit≤ tt)
text_fits (Meeting layer feature polygon one other x y w) is =
    up_to 377 _ (first (codes "code") (whole_number 504) _ 6 3 366 key_code (length_code 504 (lit< tt)) (next (codes "feature") (whole_number feature) _ 9 20 335 key_feature (length_word feature is.1) (next (codes "first") (edge_data one) _ 7 57 269 key_first (length_edge one is.3) (next (codes "layer") (whole_number layer) _ 7 20 240 key_layer (length_word layer is.0) (next (codes "polygon") (whole_number polygon) _ 9 20 209 key_polygon (length_word polygon is.2) (next (codes "second") (edge_data other) _ 8 57 142 key_second (length_edge other is.4) (next (codes "w") (digits w) _ 3 42 95 key_w (length_digits w is.7) (next (codes "x") (digits x) _ 3 42 48 key_x (length_digits x is.5) (next (codes "y") (digits y) _ 3 42 1 key_y (length_digits y is.6) last))))))))) (lit≤ tt)
text_fits (Outside layer feature polygon ring vertex) is =
    up_to 161 _ (first (codes "code") (whole_number 505) _ 6 3 150 key_code (length_code 505 (lit< tt)) (next (codes "feature") (whole_number feature) _ 9 20 119 key_feature (length_word feature is.1) (next (codes "layer") (whole_number layer) _ 7 20 90 key_layer (length_word layer is.0) (next (codes "polygon") (whole_number polygon) _ 9 20 59 key_polygon (length_word polygon is.2) (next (codes "ring") (whole_number ring) _ 6 20 31 key_ring (length_word ring is.3) (next (codes "vertex") (whole_number vertex) _ 8 20 1 key_vertex (length_word vertex is.4) last)))))) (lit≤ tt)
text_fits (HoleInHole layer feature polygon ring vertex other) is =
    up_to 190 _ (first (codes "code") (whole_number 506) _ 6 3 179 key_code (length_code 506 (lit< tt)) (next (codes "feature") (whole_number feature) _ 9 20 148 key_feature (length_word feature is.1) (next (codes "layer") (whole_number layer) _ 7 20 119 key_layer (length_word layer is.0) (next (codes "other") (whole_number other) _ 7 20 90 key_other (length_word other is.5) (next (codes "polygon") (whole_number polygon) _ 9 20 59 key_polygon (length_word polygon is.2) (next (codes "ring") (whole_number ring) _ 6 20 31 key_ring (length_word ring is.3) (next (codes "vertex") (whole_number vertex) _ 8 20 1 key_vertex (length_word vertex is.4) last))))))) (lit≤ tt)
text_fits (InPolygon layer feature polygon vertex other) is =
    up_to 162 _ (first (codes "code") (whole_number 507) _ 6 3 151 key_code (length_code 507 (lit< tt)) (next (codes "feature") (whole_number feature) _ 9 20 120 key_feature (length_word feature is.1) (next (codes "layer") (whole_number layer) _ 7 20 91 key_layer (length_word layer is.0) (next (codes "other") (whole_number other) _ 7 20 62 key_other (length_word other is.4) (next (codes "polygon") (whole_number polygon) _ 9 20 31 key_polygon (length_word polygon is.2) (next (codes "vertex") (whole_number vertex) _ 8 20 1 key_vertex (length_word vertex is.3) last)))))) (lit≤ tt)

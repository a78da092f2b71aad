-- When the bytes of a fault text are refused, and why.
use Rattle.std.specs.Prelude.{◌≡◌, ℕ, ◌<◌, ◌⊎◌, List, ◌∷◌, slice_index, codes, Some, IsUtf8, ℤ}
use Rattle.std.specs.Str.Parse.{AllDigits, signed_digits_value}
use Rattle.serde_json.specs.Data.{Data, string}
use Rattle.serde_json.specs.Read.{read}
use Rattle.mvt_fault.specs.declared.fault.Fault.{Fault}
use Rattle.mvt_fault.specs.declared.fault.Fault.TheVariants.{Meeting}
use Rattle.mvt_fault.specs.declared.ring.RingEdge.{RingEdge}
use Rattle.mvt_fault.specs.Text.{data_of, edge_data, meeting_parts, IsInRange}

-- a digit from 1 to 9 and further digits
abbrev pub IsPositiveNumeral : List ℕ → Type 0
IsPositiveNumeral ds = AllDigits 10 ds × (48 < slice_index ds 0)

-- `0`, or an optional `-`, a digit from 1 to 9 and further digits; of any length
abbrev pub HasDecimalForm : List ℕ → Type 0
HasDecimalForm s = (s ≡ codes "0") ⊎ (IsPositiveNumeral s ⊎ ((ds : List ℕ) × (s ≡ 45 ∷ ds) × IsPositiveNumeral ds))

-- the string writes this number, in decimal form
abbrev pub Writes : List ℕ → ℤ → Type 0
Writes s z = HasDecimalForm s × (signed_digits_value 10 s ≡ z)

-- the object of a meeting whose numbers x, y and w are written in decimal form, whatever their size
pub record IsMeetingObject (layer feature polygon : ℕ) (first second : RingEdge) (x y w : ℤ) (d : Data) : Type 0 where
  pub x_text : List ℕ
  pub y_text : List ℕ
  pub w_text : List ℕ
  pub writes_x : Writes x_text x
  pub writes_y : Writes y_text y
  pub writes_w : Writes w_text w
  pub object : d ≡ meeting_parts layer feature polygon (edge_data first) (edge_data second) (string w_text) (string x_text) (string y_text)

-- the value is an object with this fault's keys and what the fault has at each, whatever the size of the fault's numbers
abbrev pub StandsFor : Fault → Data → Type 0
StandsFor (Meeting layer feature polygon first second x y w) d = IsMeetingObject layer feature polygon first second x y w d
StandsFor fault d = d ≡ data_of fault

-- the value has exactly the keys of its code, with its scope for a wire fault, and at each a value of the key's type
abbrev pub HasShape : Data → Type 0
HasShape d = (f : Fault) × StandsFor f d

-- it has, and a number is out of range: a field of 2^32 or more, or an x, y or w that has no place in 128 bits
abbrev pub IsOutOfRange : Data → Type 0
IsOutOfRange d = (f : Fault) × StandsFor f d × ¬ IsInRange f

-- the bytes are a text of this value, as JSON is read
abbrev pub IsTextOf : List ℕ → Data → Type 0
IsTextOf bytes d = IsUtf8 bytes × (read bytes ≡ Some d)

-- no value is read in the bytes
abbrev pub IsNoJson : List ℕ → Type 0
IsNoJson bytes = (d : Data) → ¬ IsTextOf bytes d

-- the value that is read in the bytes has another shape than a fault's
abbrev pub HasOtherShape : List ℕ → Type 0
HasOtherShape bytes = (d : Data) × IsTextOf bytes d × ¬ HasShape d

-- the value that is read in the bytes has a fault's shape, with a number out of range
abbrev pub HasOtherRange : List ℕ → Type 0
HasOtherRange bytes = (d : Data) × IsTextOf bytes d × IsOutOfRange d

-- What keeps numbers from being the spelling of a figure (Mapbox Vector Tile Specification 2.1, section 4.3): where
-- they leave all spellings, and what was due there. Nothing here speaks of a reader.
use Rattle.std.specs.Prelude.{◌≡◌, ◌≢◌, ℕ, ◌%◌, ◌<◌, ◌≤◌, List, [], ◌∷◌, ◌++◌, length, map, take, slice_get, Some, ℤ, ◌+ℤ◌, ◌-ℤ◌}
use Rattle.mvt_plane.specs.Commands.Figure.{GeometryType, Figure, points, lines, rings, type_of, zigzag, move_to, line_to, close_path, command_integer, cursor, spelling, HasSpelling, Spells}
use Rattle.mvt_plane.specs.Position.{Position, origin, IsCoordinate}

-- What is at a place of a spelling

-- a command with its id; the x of a step, from a coordinate; the y of a step of this command, from a coordinate, after
-- this x
pub data Part : Type 0 where
  command : (id : ℕ) → Part
  x_of_step : (from : ℤ) → Part
  y_of_step : (id : ℕ) (from : ℤ) (x : ℕ) → Part

-- a number of a spelling, with what it is
pub record Word : Type 0 where
  pub part : Part
  pub number : ℕ

-- the word of these two
abbrev pub word : Part → ℕ → Word
word part number = record { part = part; number = number }

-- the parameters of a command, from a position through others
abbrev pub step_words : ℕ → Position → List Position → List Word
step_words id from [] = []
step_words id from (to ∷ rest) =
    word (x_of_step from.x) (zigzag (to.x -ℤ from.x)) ∷ word (y_of_step id from.y (zigzag (to.x -ℤ from.x))) (zigzag (to.y -ℤ from.y)) ∷ step_words id to rest

-- a line, or a ring without its end
abbrev pub path_words : Position → List Position → List Word
path_words from [] = []
path_words from (first ∷ rest) =
    word (command move_to) (command_integer move_to 1) ∷ step_words move_to from (first ∷ [])
    ++ (word (command line_to) (command_integer line_to (length rest)) ∷ step_words line_to first rest)

-- lines or rings one after another
abbrev pub words_of_paths : List Word → Position → List (List Position) → List Word
words_of_paths ending from [] = []
words_of_paths ending from (part ∷ rest) = path_words from part ++ (ending ++ words_of_paths ending (cursor from part) rest)

-- The numbers of a figure's spelling, each with what it is. That these are the numbers of `spelling` is a law.
abbrev pub words : Figure → List Word
words (points positions) = word (command move_to) (command_integer move_to (length positions)) ∷ step_words move_to origin positions
words (lines parts) = words_of_paths [] origin parts
words (rings parts) = words_of_paths (word (command close_path) (command_integer close_path 1) ∷ []) origin parts

-- Where numbers leave all spellings

-- the numbers begin the spelling of a figure of the geometry type, or are one
pub record Begins (geometry_type : GeometryType) (numbers : List ℕ) : Type 0 where
  pub figure : Figure
  pub kind : type_of figure ≡ geometry_type
  pub able : HasSpelling figure
  pub rest : List ℕ
  pub spelled : numbers ++ rest ≡ spelling figure

-- in a spelling that goes on after these numbers, this comes next
pub record IsDue (geometry_type : GeometryType) (numbers : List ℕ) (part : Part) : Type 0 where
  pub figure : Figure
  pub kind : type_of figure ≡ geometry_type
  pub able : HasSpelling figure
  pub before : List Word
  pub next : Word
  pub after : List Word
  pub split : words figure ≡ before ++ next ∷ after
  pub passed : map (λ (word : Word). word.number) before ≡ numbers
  pub here : next.part ≡ part

-- What is wrong with a number where no spelling goes on with it, by what is due there

-- the greatest parameter, which encodes -2^31 (section 4.3.2)
abbrev pub greatest_parameter : ℕ
greatest_parameter = 4294967295

-- the parameter leads from a coordinate to one that is out of range
abbrev pub LeavesRange : ℤ → ℕ → Type 0
LeavesRange from number = (step : ℤ) × (zigzag step ≡ number) × ¬ IsCoordinate (from +ℤ step)

-- a code that applies to the number
pub data Applies : Part → ℕ → ℕ → Type 0 where
  -- another command than the one that is due
  other_command : (id number : ℕ) → number % 8 ≢ id → Applies (command id) number 401
  -- the id that is due, with a count that isn't allowed
  other_count : (id number : ℕ) → number % 8 ≡ id → Applies (command id) number 402
  greatest_x : (from : ℤ) → Applies (x_of_step from) greatest_parameter 404
  greatest_y : (id : ℕ) (from : ℤ) (x : ℕ) → Applies (y_of_step id from x) greatest_parameter 404
  x_outside : (from : ℤ) (number : ℕ) → LeavesRange from number → Applies (x_of_step from) number 405
  y_outside : (id : ℕ) (from : ℤ) (x number : ℕ) → LeavesRange from number → Applies (y_of_step id from x) number 405
  -- a LineTo to the position where the cursor is
  no_step : (from : ℤ) → Applies (y_of_step line_to from 0) 0 406

-- the code of the fault at an index, the first that applies
pub data IsCause (geometry_type : GeometryType) (numbers : List ℕ) (index code : ℕ) : Type 0 where
  -- the numbers end where more is due
  ends : index ≡ length numbers → code ≡ 403 → IsCause geometry_type numbers index code
  -- no spelling goes on there
  nothing_due : index < length numbers → ((part : Part) → ¬ IsDue geometry_type (take index numbers) part) → code ≡ 401
      → IsCause geometry_type numbers index code
  -- another number is there than what is due
  due : (part : Part) (number : ℕ) → slice_get numbers index ≡ Some number → IsDue geometry_type (take index numbers) part
      → Applies part number code → ((other : ℕ) → Applies part number other → code ≤ other)
      → IsCause geometry_type numbers index code

-- The numbers are no spelling of a figure of the geometry type: they follow one up to an index and no further, and
-- there the code says what is wrong
pub record HasCommandFault (geometry_type : GeometryType) (numbers : List ℕ) (code index : ℕ) : Type 0 where
  pub unspelled : (figure : Figure) → ¬ Spells geometry_type figure numbers
  pub within : index ≤ length numbers
  pub begins : Begins geometry_type (take index numbers)
  pub longest : (further : ℕ) → index < further → further ≤ length numbers → ¬ Begins geometry_type (take further numbers)
  pub cause : IsCause geometry_type numbers index code

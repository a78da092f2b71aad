-- Figures, and the numbers that spell them as commands (Mapbox Vector Tile Specification 2.1, section 4.3).
use Rattle.std.specs.Prelude.{◌≡◌, ◌≢◌, ℕ, ◌+◌, ◌*◌, ◌^◌, ◌<◌, ◌≤◌, List, [], ◌∷◌, ◌++◌, length, ℤ, pos, negsuc, neg_ℤ, ◌-ℤ◌, ◌<ℤ◌}
use Rattle.mvt_plane.specs.Position.{Position, origin, IsPosition}

-- the geometry types that have figures (section 4.3.4)
pub data GeometryType : Type 0 where
  point : GeometryType
  line_string : GeometryType
  polygon : GeometryType

-- a figure: points, lines or rings, each a list of positions
pub data Figure : Type 0 where
  points : List Position → Figure
  lines : List (List Position) → Figure
  rings : List (List Position) → Figure

-- the geometry type of a figure
abbrev pub type_of : Figure → GeometryType
type_of (points positions) = point
type_of (lines parts) = line_string
type_of (rings parts) = polygon

-- Commands and parameters

-- signed numbers in the order 0, -1, 1, -2, 2 .. (section 4.3.2)
abbrev pub zigzag : ℤ → ℕ
zigzag (pos n) = 2 * n
zigzag (negsuc n) = 2 * n + 1

-- the id of the command that moves the cursor (section 4.3.3.1)
abbrev pub move_to : ℕ
move_to = 1

-- the id of the command that draws lines (section 4.3.3.2)
abbrev pub line_to : ℕ
line_to = 2

-- the id of the command that closes a ring (section 4.3.3.3)
abbrev pub close_path : ℕ
close_path = 7

-- a command integer: its id is in the lowest three bits, and after them the count (section 4.3.1)
abbrev pub command_integer : ℕ → ℕ → ℕ
command_integer id count = 8 * count + id

-- the parameters that go from a position through others: each step's x, and then its y
abbrev pub steps : Position → List Position → List ℕ
steps from [] = []
steps from (to ∷ rest) = zigzag (to.x -ℤ from.x) ∷ zigzag (to.y -ℤ from.y) ∷ steps to rest

-- The spelling of a figure

-- a line, or a ring without its end: one MoveTo, and a LineTo to all further positions
abbrev pub path : Position → List Position → List ℕ
path from [] = []
path from (first ∷ rest) =
    command_integer move_to 1 ∷ zigzag (first.x -ℤ from.x) ∷ zigzag (first.y -ℤ from.y) ∷ command_integer line_to (length rest) ∷ steps first rest

-- where the cursor is after these positions
abbrev pub cursor : Position → List Position → Position
cursor from [] = from
cursor from (to ∷ rest) = cursor to rest

-- lines or rings one after another, each with these numbers at its end; the cursor goes on from each to the next
abbrev pub paths : List ℕ → Position → List (List Position) → List ℕ
paths ending from [] = []
paths ending from (part ∷ rest) = path from part ++ (ending ++ paths ending (cursor from part) rest)

-- the one list of numbers that spells a figure: one MoveTo for all points; each line; each ring with its ClosePath
abbrev pub spelling : Figure → List ℕ
spelling (points positions) = command_integer move_to (length positions) ∷ steps origin positions
spelling (lines parts) = paths [] origin parts
spelling (rings parts) = paths (command_integer close_path 1 ∷ []) origin parts

-- Which figures have a spelling

-- the difference can be a parameter: from -(2^31 - 1) to 2^31 - 1 (section 4.3.2)
abbrev pub IsParameter : ℤ → Type 0
IsParameter d = (neg_ℤ (pos (2 ^ 31)) <ℤ d) × (d <ℤ pos (2 ^ 31))

-- a step between two neighbouring positions
pub record IsStep (from to : Position) : Type 0 where
  pub there : IsPosition to
  pub x : IsParameter (to.x -ℤ from.x)
  pub y : IsParameter (to.y -ℤ from.y)

-- steps from a position through others
abbrev pub AreSteps : Position → List Position → Type 0
AreSteps from [] = Unit {0}
AreSteps from (to ∷ rest) = IsStep from to × AreSteps to rest

-- no position is the same as its neighbour
abbrev pub AreApart : Position → List Position → Type 0
AreApart from [] = Unit {0}
AreApart from (to ∷ rest) = (from ≢ to) × AreApart to rest

-- a count of a command has 29 bits (section 4.3.1)
abbrev pub IsCount : ℕ → Type 0
IsCount count = count < 2 ^ 29

-- a line or ring, with so many positions at least after its first
abbrev pub IsPath : ℕ → Position → List Position → Type 0
IsPath least from [] = ⊥
IsPath least from (first ∷ rest) = IsStep from first × AreSteps first rest × AreApart first rest × (least ≤ length rest) × IsCount (length rest)

-- lines or rings one after another, each from where the one before it ends
abbrev pub ArePaths : ℕ → Position → List (List Position) → Type 0
ArePaths least from [] = Unit {0}
ArePaths least from (part ∷ rest) = IsPath least from part × ArePaths least (cursor from part) rest

-- The figure has a spelling: it has points, lines or rings; a line has two positions or more, a ring three; all
-- positions are in range, and all steps and counts fit
abbrev pub HasSpelling : Figure → Type 0
HasSpelling (points positions) = AreSteps origin positions × (1 ≤ length positions) × IsCount (length positions)
HasSpelling (lines parts) = ArePaths 1 origin parts × (1 ≤ length parts)
HasSpelling (rings parts) = ArePaths 2 origin parts × (1 ≤ length parts)

-- the numbers spell this figure, of the geometry type
pub record Spells (geometry_type : GeometryType) (figure : Figure) (numbers : List ℕ) : Type 0 where
  pub kind : type_of figure ≡ geometry_type
  pub able : HasSpelling figure
  pub spelled : numbers ≡ spelling figure

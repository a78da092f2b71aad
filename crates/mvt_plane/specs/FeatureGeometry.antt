-- The geometry of a feature by the number of its type (Mapbox Vector Tile Specification 2.1, section 4.3.4).
use Rattle.std.specs.Prelude.{◌≡◌, ℕ, List}
use Rattle.mvt_plane.specs.Commands.CommandFault.{HasCommandFault}
use Rattle.mvt_plane.specs.Commands.Figure.{GeometryType, point, line_string, polygon, Figure, rings, Spells}
use Rattle.mvt_plane.specs.Position.{Position}

-- the number of a geometry type; that of an unknown one is 0
abbrev pub type_number : GeometryType → ℕ
type_number point = 1
type_number line_string = 2
type_number polygon = 3

-- where the type is known, the numbers spell a figure of it
abbrev pub HasFigure : ℕ → List ℕ → Type 0
HasFigure kind numbers = (geometry_type : GeometryType) → kind ≡ type_number geometry_type → (figure : Figure) × Spells geometry_type figure numbers

-- the type is known, and the numbers have this command fault
abbrev pub BreaksCommands : ℕ → List ℕ → ℕ → ℕ → Type 0
BreaksCommands kind numbers code index =
    (geometry_type : GeometryType) × (kind ≡ type_number geometry_type) × HasCommandFault geometry_type numbers code index

-- the type is that of polygons, and the numbers spell these rings
pub record HasRings (kind : ℕ) (numbers : List ℕ) (parts : List (List Position)) : Type 0 where
  pub typed : kind ≡ type_number polygon
  pub spelled : Spells polygon (rings parts) numbers

-- The lands of cells: polygons of which the others of their cell may be islands.
use Rattle.std.specs.Prelude.{◌≡◌, ◌≢◌, ◌⊎◌, ℕ, suc, ◌<◌, Bool, false, List, length, slice_get, slice_index, slice_index_or, Option, Some, ℤ}
use Rattle.mvt_rules.specs.Polygon.{PolygonRings, IsHoleOf}
use Rattle.mvt_plane.specs.Position.{Position}
use Rattle.mvt_feature.specs.Calls.Bounds.{AreFarApart}
use Rattle.mvt_feature.specs.Calls.Cells.{AreCells, AreSpansApart, span_at}
use Rattle.mvt_feature.specs.Calls.FeatureParts.{listed_at}
use Rattle.mvt_feature.specs.Calls.Islands.{AreRingsFarApart, IsIslandOf}
use Rattle.mvt_feature.specs.declared.feature.lakes.Held.{Held}
use Rattle.mvt_feature.specs.declared.feature.lakes.Held.TheVariants.{Empty, One, Several}

-- Lands

-- the land of the cell of a polygon
abbrev pub land_of : List ℕ → List ℕ → ℕ → ℕ
land_of cells lands polygon = slice_index lands (slice_index cells polygon)

-- the cell of each of so many polygons has a polygon of that cell as its land
pub record AreLands (cells : List ℕ) (count : ℕ) (lands : List ℕ) : Type 0 where
  pub known : AreCells (length cells) lands
  pub own : (polygon : ℕ) → polygon < count → slice_index cells (land_of cells lands polygon) ≡ slice_index cells polygon

-- polygons of different cells have bounds that are apart
abbrev pub AreCellsApart : List (List Position) → List (ℕ × ℕ) → List ℕ → Type 0
AreCellsApart rings polygons cells = (polygon other : ℕ) → polygon < length polygons → other < length polygons → slice_index cells polygon ≢ slice_index cells other
    → AreFarApart rings (listed_at polygons polygon) (listed_at polygons other)

-- Polygons of one cell that are no lands

-- of so many polygons those that are no lands have their cells
pub record AreWithoutLands (cells lands : List ℕ) (count : ℕ) (others : List ℕ) : Type 0 where
  pub size : length others ≡ length cells
  pub same : (polygon : ℕ) → polygon < count → land_of cells lands polygon ≢ polygon → slice_index others polygon ≡ slice_index cells polygon

-- two different polygons of one cell, neither of them its land
pub record AreNeighbours (cells lands : List ℕ) (polygon other : ℕ) : Type 0 where
  pub here : polygon < length cells
  pub there : other < length cells
  pub different : polygon ≢ other
  pub cell : slice_index cells polygon ≡ slice_index cells other
  pub no_land : land_of cells lands polygon ≢ polygon
  pub no_land_either : land_of cells lands other ≢ other

-- a polygon that isn't marked has spans that are apart from those of each neighbour
pub record AreApartFromNeighbours (across upward : List (ℤ × ℤ)) (cells lands : List ℕ) (marks : List Bool) : Type 0 where
  pub size : length marks ≡ length cells
  pub apart : (polygon other : ℕ) → AreNeighbours cells lands polygon other → slice_index_or marks polygon false ≡ false
      → AreSpansApart (span_at across polygon) (span_at across other) ⊎ AreSpansApart (span_at upward polygon) (span_at upward other)

-- a polygon that isn't marked has bounds that are apart from those of each neighbour
pub record AreFarFromNeighbours (rings : List (List Position)) (polygons : List (ℕ × ℕ)) (cells lands : List ℕ) (marks : List Bool) : Type 0 where
  pub size : length marks ≡ length cells
  pub apart : (polygon other : ℕ) → AreNeighbours cells lands polygon other → slice_index_or marks polygon false ≡ false → AreFarApart rings (listed_at polygons polygon) (listed_at polygons other)

-- Lakes: holes of lands

-- the cell of a polygon is that of its exterior, if it is no land, and otherwise of its holes; for so many polygons
pub record AreFirstCells (polygons : List (ℕ × ℕ)) (cells lands : List ℕ) (count ring_count : ℕ) (first : List ℕ) : Type 0 where
  pub size : length first ≡ ring_count
  pub exteriors : (polygon : ℕ) → polygon < count → land_of cells lands polygon ≢ polygon → slice_index first (listed_at polygons polygon).exterior ≡ slice_index cells polygon
  pub holes : (polygon : ℕ) → polygon < count → land_of cells lands polygon ≡ polygon → (hole : ℕ) → IsHoleOf (listed_at polygons polygon) hole → slice_index first hole ≡ slice_index cells polygon

-- the exterior of a polygon and a hole of its land have bounds that are apart, if they have different cells
abbrev pub AreLakesParted : List (List Position) → List (ℕ × ℕ) → List ℕ → List ℕ → List ℕ → Type 0
AreLakesParted rings polygons cells lands ring_cells = (polygon hole : ℕ) (ring vertices : List Position) → polygon < length polygons → land_of cells lands polygon ≢ polygon
    → IsHoleOf (listed_at polygons (land_of cells lands polygon)) hole → slice_index ring_cells (listed_at polygons polygon).exterior ≢ slice_index ring_cells hole
    → slice_get rings (listed_at polygons polygon).exterior ≡ Some ring → slice_get rings hole ≡ Some vertices → AreRingsFarApart ring vertices

-- the hole is among those that are held
abbrev pub HoldsHole : Held → ℕ → Type 0
HoldsHole Empty hole = ⊥
HoldsHole (One other) hole = other ≡ hole
HoldsHole Several hole = Unit

-- the hole is among those that its cell holds
abbrev pub IsHeld : List ℕ → List Held → ℕ → Type 0
IsHeld ring_cells held hole = HoldsHole (slice_index_or held (slice_index ring_cells hole) Empty) hole

-- all holes of so many polygons are
pub record AreHeld (polygons : List (ℕ × ℕ)) (ring_cells : List ℕ) (count : ℕ) (held : List Held) : Type 0 where
  pub size : length held ≡ length ring_cells
  pub all : (polygon : ℕ) → polygon < count → (hole : ℕ) → IsHoleOf (listed_at polygons polygon) hole → IsHeld ring_cells held hole

-- the hole of the other polygon, of whose holes all others have bounds that are apart from those of the polygon's exterior
pub record IsOnlyLake (rings : List (List Position)) (it its : PolygonRings) (hole : ℕ) : Type 0 where
  pub is : IsHoleOf its hole
  pub far : (other : ℕ) (ring vertices : List Position) → IsHoleOf its other → other ≢ hole → slice_get rings it.exterior ≡ Some ring → slice_get rings other ≡ Some vertices → AreRingsFarApart ring vertices

-- the hole is the only one that is held, and one of the polygon's; and there is no mark
pub record IsLakeOf (its : PolygonRings) (held : Held) (mark : Bool) (hole : ℕ) : Type 0 where
  pub is : IsHoleOf its hole
  pub only : held ≡ One hole
  pub unmarked : mark ≡ false

-- the hole is the polygon's only one; and there is no mark
pub record IsSingleLakeOf (its : PolygonRings) (mark : Bool) (hole : ℕ) : Type 0 where
  pub first : suc its.exterior ≡ hole
  pub last : suc hole ≡ its.after
  pub unmarked : mark ≡ false

-- of so many polygons: where one that is no land has a lake, it is its only one
pub record AreLakes (rings : List (List Position)) (polygons : List (ℕ × ℕ)) (cells lands : List ℕ) (count : ℕ) (lakes : List (Option ℕ)) : Type 0 where
  pub size : length lakes ≡ count
  pub only : (polygon hole : ℕ) → polygon < count → land_of cells lands polygon ≢ polygon → slice_get lakes polygon ≡ Some (Some hole)
      → IsOnlyLake rings (listed_at polygons polygon) (listed_at polygons (land_of cells lands polygon)) hole

-- polygons with a lake aren't marked
abbrev pub AreLakesUnmarked : List Bool → List (Option ℕ) → Type 0
AreLakesUnmarked marks lakes = (polygon hole : ℕ) → slice_get lakes polygon ≡ Some (Some hole) → slice_index_or marks polygon false ≡ false

-- Settled polygons

-- the polygon has a lake, and is an island of its land
pub record IsSettled (rings : List (List Position)) (polygons : List (ℕ × ℕ)) (cells lands : List ℕ) (lakes : List (Option ℕ)) (polygon : ℕ) : Type 0 where
  pub hole : ℕ
  pub lake : slice_get lakes polygon ≡ Some (Some hole)
  pub island : IsIslandOf rings (listed_at polygons polygon) (listed_at polygons (land_of cells lands polygon))

-- of so many polygons each that is no land is settled, unless its cell fails
pub record AreFailing (rings : List (List Position)) (polygons : List (ℕ × ℕ)) (cells lands : List ℕ) (lakes : List (Option ℕ)) (count : ℕ) (failing : List Bool) : Type 0 where
  pub size : length failing ≡ length cells
  pub settled : (polygon : ℕ) → polygon < count → land_of cells lands polygon ≢ polygon → slice_index_or failing (slice_index cells polygon) false ≡ false
      → IsSettled rings polygons cells lands lakes polygon

-- of so many polygons each is marked where its cell fails
pub record AreOfFailing (cells : List ℕ) (failing : List Bool) (count : ℕ) (marks : List Bool) : Type 0 where
  pub size : length marks ≡ count
  pub each : (polygon : ℕ) → polygon < count → slice_index_or marks polygon false ≡ slice_index_or failing (slice_index cells polygon) false

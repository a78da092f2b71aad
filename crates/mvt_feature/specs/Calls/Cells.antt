-- Cells of polygons: two of different cells have bounds that are apart along an axis.
use Rattle.std.specs.Prelude.{◌≡◌, ◌≢◌, ◌⊎◌, ℕ, ◌<◌, ◌≤◌, Bool, true, false, List, length, slice_get, slice_index, slice_index_or, Some, ℤ, pos, ◌<ℤ◌, ◌≤ℤ◌}
use Rattle.mvt_plane.specs.Position.{Position}
use Rattle.mvt_sweep.specs.Bounds.{AreBoundsOf, AreBoundsOfPolygon}
use Rattle.mvt_feature.specs.Calls.FeatureParts.{listed_at}
use Rattle.mvt_sweep.specs.declared.bounds.Bounds.{Bounds}

-- Spans: from the least to the greatest coordinate along an axis

-- the span of this number
abbrev pub span_at : List (ℤ × ℤ) → ℕ → ℤ × ℤ
span_at spans number = slice_index_or spans number (pos 0, pos 0)

-- no coordinate is within both
abbrev pub AreSpansApart : ℤ × ℤ → ℤ × ℤ → Type 0
AreSpansApart one other = (one.1 <ℤ other.0) ⊎ (other.1 <ℤ one.0)

-- the bounds of a polygon, of which these are the spans
pub record HasSpans (rings : List (List Position)) (polygons : List (ℕ × ℕ)) (polygon : ℕ) (across upward : ℤ × ℤ) : Type 0 where
  pub bounds : Bounds
  pub of : AreBoundsOfPolygon rings (listed_at polygons polygon) bounds
  pub left : bounds.left ≡ across.0
  pub right : bounds.right ≡ across.1
  pub low : bounds.low ≡ upward.0
  pub high : bounds.high ≡ upward.1

-- the spans of so many polygons
pub record AreSpansOf (rings : List (List Position)) (polygons : List (ℕ × ℕ)) (count : ℕ) (across upward : List (ℤ × ℤ)) : Type 0 where
  pub across_size : length across ≡ count
  pub upward_size : length upward ≡ count
  pub each : (polygon : ℕ) → polygon < count → HasSpans rings polygons polygon (span_at across polygon) (span_at upward polygon)

-- Cells

-- so many numbers have cells, which are fewer
pub record AreCells (count : ℕ) (cells : List ℕ) : Type 0 where
  pub size : length cells ≡ count
  pub below : (number : ℕ) → number < count → slice_index cells number < count

-- numbers of different cells had different ones before, or have spans that are apart
abbrev pub AreParted : List (ℤ × ℤ) → List ℕ → List ℕ → Type 0
AreParted spans before cells = (one other : ℕ) → one < length before → other < length before → slice_index cells one ≢ slice_index cells other
    → (slice_index before one ≢ slice_index before other) ⊎ AreSpansApart (span_at spans one) (span_at spans other)

-- numbers of different cells have spans that are apart along one of two axes
abbrev pub AreCellsOf : List (ℤ × ℤ) → List (ℤ × ℤ) → List ℕ → Type 0
AreCellsOf across upward cells = (one other : ℕ) → one < length across → other < length across → slice_index cells one ≢ slice_index cells other
    → AreSpansApart (span_at across one) (span_at across other) ⊎ AreSpansApart (span_at upward one) (span_at upward other)

-- what is at a place of an order: the cell, the least coordinate and the number
abbrev pub keyed_number : List (ℤ × ℤ) → List ℕ → ℕ → ℕ × ℤ × ℕ
keyed_number spans cells number = (slice_index cells number, (span_at spans number).0, number)

-- what is at this place
abbrev pub order_at : List (ℕ × ℤ × ℕ) → ℕ → ℕ × ℤ × ℕ
order_at order at = slice_index_or order at (0, pos 0, 0)

-- one comes before the other, or has the same cell and least coordinate
abbrev pub IsCellBefore : ℕ × ℤ × ℕ → ℕ × ℤ × ℕ → Type 0
IsCellBefore one other = (one.0 < other.0) ⊎ ((one.0 ≡ other.0) × (one.1 ≤ℤ other.1))

-- the marked numbers of the first ones, so many of them, each once, in any order
pub record AreNumbered (spans : List (ℤ × ℤ)) (cells : List ℕ) (marks : List Bool) (count : ℕ) (order : List (ℕ × ℤ × ℕ)) : Type 0 where
  pub known : (at : ℕ) (it : ℕ × ℤ × ℕ) → slice_get order at ≡ Some it → it.2 < count
  pub keyed : (at : ℕ) (it : ℕ × ℤ × ℕ) → slice_get order at ≡ Some it → it ≡ keyed_number spans cells it.2
  pub all : (number : ℕ) → number < count → slice_index_or marks number false ≡ true → (at : ℕ) × (slice_get order at ≡ Some (keyed_number spans cells number))
  pub once : (at other : ℕ) (it its : ℕ × ℤ × ℕ) → slice_get order at ≡ Some it → slice_get order other ≡ Some its → it.2 ≡ its.2 → at ≡ other

-- the marked numbers, each once, by their cells and least coordinates
pub record IsCellOrder (spans : List (ℤ × ℤ)) (cells : List ℕ) (marks : List Bool) (order : List (ℕ × ℤ × ℕ)) : Type 0 where
  pub numbered : AreNumbered spans cells marks (length cells) order
  pub sorted : (at other : ℕ) (it its : ℕ × ℤ × ℕ) → at ≤ other → slice_get order at ≡ Some it → slice_get order other ≡ Some its → IsCellBefore it its

-- Shared cells

-- so many numbers are marked, and all of them
abbrev pub AreAllMarked : ℕ → List Bool → Type 0
AreAllMarked count marks = (number : ℕ) → number < count → slice_index_or marks number false ≡ true

-- a number that isn't marked has a cell that no other one has
pub record AreSharing (cells : List ℕ) (marks : List Bool) : Type 0 where
  pub size : length marks ≡ length cells
  pub alone : (one other : ℕ) → one < length cells → other < length cells → one ≢ other → slice_index_or marks one false ≡ false
      → slice_index cells one ≢ slice_index cells other

-- Cells of rings

-- the bounds of a ring, of which these are the spans
pub record HasRingSpans (rings : List (List Position)) (ring : ℕ) (across upward : ℤ × ℤ) : Type 0 where
  pub bounds : Bounds
  pub of : (vertices : List Position) → slice_get rings ring ≡ Some vertices → AreBoundsOf vertices bounds
  pub left : bounds.left ≡ across.0
  pub right : bounds.right ≡ across.1
  pub low : bounds.low ≡ upward.0
  pub high : bounds.high ≡ upward.1

-- the spans of so many rings
pub record AreRingSpans (rings : List (List Position)) (count : ℕ) (across upward : List (ℤ × ℤ)) : Type 0 where
  pub across_size : length across ≡ count
  pub upward_size : length upward ≡ count
  pub each : (ring : ℕ) → ring < count → HasRingSpans rings ring (span_at across ring) (span_at upward ring)

-- numbers that had one cell before and have different ones now have spans that are apart along one of two axes
abbrev pub AreRefined : List (ℤ × ℤ) → List (ℤ × ℤ) → List ℕ → List ℕ → Type 0
AreRefined across upward before cells = (one other : ℕ) → one < length before → other < length before → slice_index before one ≡ slice_index before other
    → slice_index cells one ≢ slice_index cells other → AreSpansApart (span_at across one) (span_at across other) ⊎ AreSpansApart (span_at upward one) (span_at upward other)

-- The least and the greatest coordinates of rings, by which most pairs of polygons are told apart.
use Rattle.std.specs.Prelude.{◌≡◌, ℕ, ◌+◌, ◌<◌, ◌≤◌, ◌⊎◌, List, length, slice_get, Option, Some, None, IfSome, ℤ, ◌≤ℤ◌}
use Rattle.mvt_rules.specs.Nesting.{IsInsidePolygon}
use Rattle.mvt_rules.specs.Polygon.{PolygonRings}
use Rattle.mvt_plane.specs.Position.{Position}
use Rattle.mvt_polygon.specs.Apart.{IsApartFault}
use Rattle.mvt_feature.specs.Calls.FeatureParts.{listed_at}
use Rattle.mvt_polygon.specs.declared.apart.ApartFault.{ApartFault}
use Rattle.mvt_sweep.specs.declared.bounds.Bounds.{Bounds}
use Rattle.mvt_feature.specs.declared.feature.later.spread.Spread.{Spread}
use Rattle.mvt_sweep.specs.Bounds.{AreBoundsOf, AreBoundsApart, AreBoundsOfPolygon}

-- Polygons

-- two polygons have bounds that are apart
pub record AreFarApart (rings : List (List Position)) (it its : PolygonRings) : Type 0 where
  pub one : Bounds
  pub other : Bounds
  pub of_one : AreBoundsOfPolygon rings it one
  pub of_other : AreBoundsOfPolygon rings its other
  pub apart : AreBoundsApart one other

-- Polygons of a list

-- these are bounds of the exteriors of the polygons from one number on, up to another
pub record AreLaterBounds (rings : List (List Position)) (polygons : List (ℕ × ℕ)) (later to : ℕ) (bounds : List Bounds) : Type 0 where
  pub count : later + length bounds ≡ to
  pub are : (number : ℕ) (its : Bounds) (ring : List Position) → slice_get bounds number ≡ Some its
      → slice_get rings (listed_at polygons (later + number)).exterior ≡ Some ring → AreBoundsOf ring its

-- all bounds with their numbers, in any order
pub record IsNumbering (bounds : List Bounds) (order : List (ℤ × ℕ)) : Type 0 where
  pub known : (at : ℕ) (left : ℤ) (number : ℕ) → slice_get order at ≡ Some (left, number) → number < length bounds
  pub keyed : (at : ℕ) (left : ℤ) (number : ℕ) (its : Bounds) → slice_get order at ≡ Some (left, number) → slice_get bounds number ≡ Some its → left ≡ its.left
  pub all : (number : ℕ) → number < length bounds → (at : ℕ) × ((left : ℤ) × (slice_get order at ≡ Some (left, number)))

-- all of these bounds by their numbers, each with its left side, in the order of those
pub record AreBoundsInOrder (bounds : List Bounds) (order : List (ℤ × ℕ)) : Type 0 where
  pub numbering : IsNumbering bounds order
  pub sorted : (at other : ℕ) (left its : ℤ) (number another : ℕ) → at ≤ other → slice_get order at ≡ Some (left, number) → slice_get order other ≡ Some (its, another)
      → left ≤ℤ its

-- as far to the right as each of them in the order, and those before it
pub record AreReaches (bounds : List Bounds) (order : List (ℤ × ℕ)) (to : ℕ) (reaches : List ℤ) : Type 0 where
  pub count : length reaches ≡ to
  pub reach : (at other : ℕ) (left : ℤ) (number : ℕ) (its : Bounds) (reach : ℤ) → at ≤ other → slice_get order at ≡ Some (left, number) → slice_get bounds number ≡ Some its
      → slice_get reaches other ≡ Some reach → its.right ≤ℤ reach

-- what is kept of the polygons from a number on
pub record IsSpread (rings : List (List Position)) (polygons : List (ℕ × ℕ)) (later : ℕ) (spread : Spread) : Type 0 where
  pub bounds : AreLaterBounds rings polygons later (length polygons) spread.bounds.items
  pub order : AreBoundsInOrder spread.bounds.items spread.order.items
  pub reaches : AreReaches spread.bounds.items spread.order.items (length spread.order.items) spread.reaches.items

-- Vertices inside a polygon

-- none of these vertices up to a number is inside the polygon
abbrev pub AreNotIn : List (List Position) → PolygonRings → List Position → ℕ → Type 0
AreNotIn rings it vertices to = (number : ℕ) → number < to → (position : Position) → slice_get vertices number ≡ Some position → ¬ IsInsidePolygon rings it position

-- the vertex of this number is inside the polygon, and none before it is
pub record IsFirstVertexIn (rings : List (List Position)) (it : PolygonRings) (vertices : List Position) (vertex : ℕ) : Type 0 where
  pub position : Position
  pub here : slice_get vertices vertex ≡ Some position
  pub inside : IsInsidePolygon rings it position
  pub first : AreNotIn rings it vertices vertex

-- Faults

-- the fault comes first, or is the one at this vertex with this polygon
abbrev pub ComesNoLater : ApartFault → ℕ → ℕ → Type 0
ComesNoLater fault vertex other = (fault.vertex < vertex) ⊎ ((fault.vertex ≡ vertex) × (fault.other ≤ other))

-- the first of a fault that was found and all those with one more polygon
abbrev pub IsFirstWith : List (List Position) → ℕ → ℕ → Option ApartFault → Option ApartFault → Type 0
IsFirstWith rings polygon other found None = (found ≡ None) × ((vertex : ℕ) → ¬ IsApartFault rings polygon vertex other)
IsFirstWith rings polygon other found (Some fault) =
    ((found ≡ Some fault) ⊎ ((fault.other ≡ other) × IsApartFault rings polygon fault.vertex other))
    × ((vertex : ℕ) → IsApartFault rings polygon vertex other → ComesNoLater fault vertex other) × IfSome found (λ known. ComesNoLater fault known.vertex known.other)

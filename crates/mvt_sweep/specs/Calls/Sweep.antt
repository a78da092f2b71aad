-- A sweep over edges by their numbers: a line goes over the plane from key to key, and the edges that it meets are kept
-- in their order along it. Neighbours in this order were tested.
use Rattle.std.specs.Prelude.{◌≡◌, ◌≢◌, ◌⊎◌, ℕ, ◌<◌, List, ◌++◌, Option, Some, ℤ, pos, ◌*ℤ◌, ◌<ℤ◌, ◌≤ℤ◌}
use Rattle.mvt_plane.specs.Geometry.CommonPoint.{IsCommon}
use Rattle.mvt_plane.specs.Geometry.EdgeOrder.{Segment, IsRising, IsAfter, IsBelow, gap}
use Rattle.mvt_plane.specs.Calls.EdgeOrder.{edge_along, IsEndOf, MeetOnlyAt, key_at}
use Rattle.mvt_plane.specs.Geometry.Measure.{key_of, orientation}
use Rattle.mvt_plane.specs.Position.{Position}
use Rattle.mvt_plane.specs.Geometry.RationalPoint.{RationalPoint}
use Rattle.mvt_sweep.specs.Calls.Chain.{Has, EachOne, Chain}

-- What is swept over

-- how many edges there are, each by its number, and the vertex that two of them share, if they share one
pub record Plan : Type 0 where
  pub count : ℕ
  pub segment : ℕ → Segment
  pub shared : ℕ → ℕ → Option Position

-- each edge goes from a lesser key to a greater one, and edges that share a vertex both end or begin there
pub record IsPlan (plan : Plan) : Type 0 where
  pub rising : (edge : ℕ) → edge < plan.count → IsRising (plan.segment edge)
  pub on_first : (first second : ℕ) (vertex : Position) → first < plan.count → second < plan.count → plan.shared first second ≡ Some vertex → IsEndOf vertex (plan.segment first)
  pub on_second : (first second : ℕ) (vertex : Position) → first < plan.count → second < plan.count → plan.shared first second ≡ Some vertex → IsEndOf vertex (plan.segment second)
  pub alike : (first second : ℕ) → first < plan.count → second < plan.count → plan.shared first second ≡ plan.shared second first

-- two edges have this point in common, and it isn't the vertex that they share
abbrev pub IsWrong : Plan → RationalPoint → ℕ → ℕ → Type 0
IsWrong plan point first second = IsCommon (plan.shared first second) (edge_along (plan.segment first)) (edge_along (plan.segment second)) point

-- two edges were tested, and meet only at the vertex that they share, if they share one
abbrev pub Tested : Plan → ℕ → ℕ → Type 0
Tested plan first second = MeetOnlyAt (plan.shared first second) (plan.segment first) (plan.segment second)

-- right after this key the first edge is below the second
abbrev pub After : Plan → ℤ → ℕ → ℕ → Type 0
After plan key first second = IsAfter key (plan.segment first) (plan.segment second)

-- How far the line went

-- the edge goes on after this key, and began at it or before
pub record IsActive (plan : Plan) (key : ℤ) (edge : ℕ) : Type 0 where
  pub known : edge < plan.count
  pub begun : key_of (plan.segment edge).low ≤ℤ key
  pub lasts : key <ℤ key_of (plan.segment edge).high

-- no two edges meet wrongly up to this key
abbrev pub IsPast : Plan → ℤ → Type 0
IsPast plan key = (first second : ℕ) (point : RationalPoint) → first < plan.count → second < plan.count → first ≢ second → IsWrong plan point first second
    → (key *ℤ point.w) <ℤ key_at point

-- The line is after this key: these are the edges that go on, in their order. Neighbours were tested.
pub record IsSwept (plan : Plan) (key : ℤ) (edges : List ℕ) : Type 0 where
  pub active : (edge : ℕ) → Has edges edge → IsActive plan key edge
  pub whole : (edge : ℕ) → IsActive plan key edge → Has edges edge
  pub tested : Chain (Tested plan) edges
  pub after : Chain (After plan key) edges
  pub past : IsPast plan key

-- The next vertex

-- Where the line goes on from a key, the next vertex is this one, of these two edges alone. They share it.
pub record IsEvent (plan : Plan) (key : ℤ) (vertex : Position) (first second : ℕ) : Type 0 where
  pub later : key <ℤ key_of vertex
  pub first_known : first < plan.count
  pub second_known : second < plan.count
  pub differ : first ≢ second
  pub at_first : IsEndOf vertex (plan.segment first)
  pub at_second : IsEndOf vertex (plan.segment second)
  pub meet : plan.shared first second ≡ Some vertex
  -- an end with the key of the vertex is one of these edges'
  pub only_low : (edge : ℕ) → edge < plan.count → key_of (plan.segment edge).low ≡ key_of vertex → (edge ≡ first) ⊎ (edge ≡ second)
  pub only_high : (edge : ℕ) → edge < plan.count → key_of (plan.segment edge).high ≡ key_of vertex → (edge ≡ first) ⊎ (edge ≡ second)
  -- no end is strictly between
  pub next_low : (edge : ℕ) → edge < plan.count → (key_of (plan.segment edge).low ≤ℤ key) ⊎ (key_of vertex ≤ℤ key_of (plan.segment edge).low)
  pub next_high : (edge : ℕ) → edge < plan.count → (key_of (plan.segment edge).high ≤ℤ key) ⊎ (key_of vertex ≤ℤ key_of (plan.segment edge).high)

-- both edges begin there
pub record BeginThere (plan : Plan) (vertex : Position) (first second : ℕ) : Type 0 where
  pub first_begins : (plan.segment first).low ≡ vertex
  pub second_begins : (plan.segment second).low ≡ vertex

-- both edges begin there, the first below the second
pub record BothBegin (plan : Plan) (vertex : Position) (lower upper : ℕ) : Type 0 where
  pub lower_begins : (plan.segment lower).low ≡ vertex
  pub upper_begins : (plan.segment upper).low ≡ vertex
  pub in_order : pos 0 <ℤ orientation vertex (plan.segment lower).high (plan.segment upper).high

-- the first ends there, and the second begins
pub record PassesOn (plan : Plan) (vertex : Position) (ending beginning : ℕ) : Type 0 where
  pub ends : (plan.segment ending).high ≡ vertex
  pub begins : (plan.segment beginning).low ≡ vertex

-- both end there
pub record BothEnd (plan : Plan) (vertex : Position) (first second : ℕ) : Type 0 where
  pub first_ends : (plan.segment first).high ≡ vertex
  pub second_ends : (plan.segment second).high ≡ vertex

-- Its place among the edges

-- the edge is below the vertex, at the key of the vertex
abbrev pub IsUnder : Plan → Position → ℕ → Type 0
IsUnder plan vertex edge = pos 0 <ℤ orientation (plan.segment edge).low (plan.segment edge).high vertex

-- the edges come apart into those below the vertex and the others
pub record IsCut (plan : Plan) (vertex : Position) (edges front rest : List ℕ) : Type 0 where
  pub whole : edges ≡ front ++ rest
  pub below : EachOne (IsUnder plan vertex) front
  pub others : EachOne (λ (edge : ℕ). ¬ IsUnder plan vertex edge) rest

-- The edges keep their order up to the next vertex, where only those that end or begin in it may come together
pub record IsSlab (plan : Plan) (key : ℤ) (vertex : Position) (first second : ℕ) : Type 0 where
  pub below : IsBelow key (key_of vertex) (plan.segment first) (plan.segment second)
  pub tied_first : gap (plan.segment first) (plan.segment second) (key_of vertex) (pos 1) ≡ pos 0 → IsEndOf vertex (plan.segment first)
  pub tied_second : gap (plan.segment first) (plan.segment second) (key_of vertex) (pos 1) ≡ pos 0 → IsEndOf vertex (plan.segment second)

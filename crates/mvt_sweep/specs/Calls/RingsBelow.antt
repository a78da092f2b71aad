-- The rings whose edges pass below a position, and the rings around it.
use Rattle.std.specs.Prelude.{◌≡◌, ℕ, zero, suc, Bool, false, not, List, [], ◌∷◌, slice_get, Some, ◌≤ℤ◌}
use Rattle.mvt_plane.specs.Geometry.Below.{HasOddBelow, IsNotAbove, PassesBelow}
use Rattle.mvt_plane.specs.Geometry.Inside.{Differ}
use Rattle.mvt_plane.specs.Geometry.Measure.{key_of}
use Rattle.mvt_plane.specs.Position.{Position}
use Rattle.mvt_rules.specs.Meeting.{IsEdgeOf}
use Rattle.mvt_fault.specs.declared.ring.RingEdge.{RingEdge}
use Rattle.mvt_plane.specs.declared.geometry.edge.Edge.{Edge}

-- an odd number of all the rings' edges pass below the position
abbrev pub HaveOddBelow : Position → List (List Position) → Type 0
HaveOddBelow position [] = ⊥
HaveOddBelow position (ring ∷ rest) = Differ (HasOddBelow position ring) (HaveOddBelow position rest)

-- no edge of the rings passes below the position
abbrev pub HaveNoneBelow : Position → List (List Position) → Type 0
HaveNoneBelow position rings = (number : RingEdge) (edge : Edge) → IsEdgeOf rings number edge → ¬ PassesBelow position edge

-- an edge of this ring passes below the position, and no other edge that does is above it
pub record IsRingBelow (position : Position) (rings : List (List Position)) (ring : ℕ) : Type 0 where
  pub number : RingEdge
  pub of_ring : number.ring ≡ ring
  pub edge : Edge
  pub there : IsEdgeOf rings number edge
  pub below : PassesBelow position edge
  pub none_above : (another : RingEdge) (other : Edge) → IsEdgeOf rings another other → PassesBelow position other → IsNotAbove position other edge

-- the vertex of a ring that the line of a sweep comes to first: the one of least key
pub record IsLeastVertex (rings : List (List Position)) (ring : ℕ) (position : Position) : Type 0 where
  pub vertices : List Position
  pub there : slice_get rings ring ≡ Some vertices
  pub vertex : ℕ
  pub here : slice_get vertices vertex ≡ Some position
  pub first : (another : ℕ) (other : Position) → slice_get vertices another ≡ Some other → key_of position ≤ℤ key_of other

-- the position is inside the ring of this number: an odd number of its edges pass below the position
pub record IsRingAround (rings : List (List Position)) (position : Position) (number : ℕ) : Type 0 where
  pub ring : List Position
  pub there : slice_get rings number ≡ Some ring
  pub odd : HasOddBelow position ring

-- whether so many are an odd number
abbrev pub is_odd_number : ℕ → Bool
is_odd_number zero = false
is_odd_number (suc number) = not (is_odd_number number)

-- Pairs of edges that are to be tested, in place of all that there are.
use Rattle.std.specs.Prelude.{◌≡◌, ◌⊎◌, ℕ, zero, suc, ◌+◌, ◌*◌, ◌/◌, ◌<◌, ◌≤◌, All, List, length, ℤ, ◌<ℤ◌}
use Rattle.mvt_plane.specs.declared.geometry.edge.Edge.{Edge}
use Rattle.mvt_sweep.specs.Calls.SweepVertices.{sweep_count, edge_at, plan_of}
use Rattle.mvt_sweep.specs.Calls.Sweep.{Tested}
use Rattle.mvt_sweep.specs.Calls.EdgeBounds.{bounds_count, bounds_at}
use Rattle.mvt_sweep.specs.declared.bounds.Bounds.{Bounds}
use Rattle.mvt_sweep.specs.declared.edge_bounds.EdgeBounds.{EdgeBounds}
use Rattle.mvt_sweep.specs.declared.sweep.vertices.SweepVertices.{SweepVertices}
use Rattle.mvt_sweep.specs.Bounds.{IsInBounds}

-- how many probes hold each of so many edges against those before it: one for each four of these, and one for the others
unfoldable pub probes_of : ℕ → ℕ
probes_of zero = 0
probes_of (suc edges) = probes_of edges + (edges / 4 + 1)

-- two different edges, the lesser number first
pub record IsPair (vertices : SweepVertices) (first second : ℕ) : Type 0 where
  pub in_order : first < second
  pub known : second < sweep_count vertices

-- At most three pairs for each edge. Where these are tested, so are all two edges below this number, and the edge of
-- this number with each one below another number.
pub record AreEnough (vertices : SweepVertices) (pairs : List (ℕ × ℕ)) (number below : ℕ) : Type 0 where
  pub few : length pairs ≤ 3 * sweep_count vertices
  pub each : All (λ (pair : ℕ × ℕ). IsPair vertices pair.0 pair.1) pairs
  pub rest : All (λ (pair : ℕ × ℕ). Tested (plan_of vertices) pair.0 pair.1) pairs → (first second : ℕ) → first < second
      → (second < number) ⊎ ((second ≡ number) × (first < below)) → Tested (plan_of vertices) first second

-- the same for all edges
abbrev pub AreEnoughForAll : SweepVertices → List (ℕ × ℕ) → Type 0
AreEnoughForAll vertices pairs = AreEnough vertices pairs (sweep_count vertices) 0

-- each of two numbers is less than each of two others
pub record AreLess (a b c d : ℤ) : Type 0 where
  pub a_c : a <ℤ c
  pub a_d : a <ℤ d
  pub b_c : b <ℤ c
  pub b_d : b <ℤ d

-- two edges have no height in common: the first is below the second, or above it
pub data AreHeightsApart (one other : Edge) : Type 0 where
  below : AreLess one.a.y one.b.y other.a.y other.b.y → AreHeightsApart one other
  above : AreLess other.a.y other.b.y one.a.y one.b.y → AreHeightsApart one other

-- both ends of the edge are within the bounds
pub record AreEndsWithin (bounds : Bounds) (edge : Edge) : Type 0 where
  pub begin : IsInBounds bounds edge.a
  pub end : IsInBounds bounds edge.b

-- the bounds of so many edges, by their numbers
pub record AreEdgeBounds (vertices : SweepVertices) (many : ℕ) (list : EdgeBounds) : Type 0 where
  pub count : bounds_count list ≡ many
  pub each : (number : ℕ) → number < many → AreEndsWithin (bounds_at list number) (edge_at vertices number)

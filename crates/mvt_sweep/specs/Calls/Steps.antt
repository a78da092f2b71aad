-- What comes of one step of a sweep.
use Rattle.std.specs.Prelude.{◌≡◌, ◌⊎◌, ℕ, ◌<◌, ◌≤◌, List, Option, Some, None, drop, length, take, ℤ, ◌<ℤ◌, ◌≤ℤ◌}
use Rattle.mvt_plane.specs.Geometry.Measure.{key_of}
use Rattle.mvt_sweep.specs.Calls.VertexOrder.{IsNextVertex, IsSweptOver}
use Rattle.mvt_sweep.specs.Calls.SweepVertices.{IsMeetingAt, sweep_count, next_at, plan_of, position_at, previous_at}
use Rattle.mvt_sweep.specs.Calls.Sweep.{BeginThere, IsCut, IsSwept}
use Rattle.mvt_sweep.specs.declared.sweep.vertices.SweepVertices.{SweepVertices}
use Rattle.mvt_sweep.specs.declared.sweep.vertices.Pair.{Pair}
use Rattle.mvt_sweep.specs.declared.sweep.step.Step.{Step}
use Rattle.mvt_sweep.specs.declared.sweep.step.Step.TheVariants.{Meets, Begins, Ends}
use Rattle.mvt_status.specs.Split.{AreBeside}
use Rattle.mvt_status.specs.declared.status.Split.{Split}

-- both edges of the vertex began in it, in this place among the edges: those before it are below the vertex
pub record IsBegun (vertices : SweepVertices) (number : ℕ) (place : Split) (edges : List ℕ) : Type 0 where
  pub begin : BeginThere (plan_of vertices) (position_at vertices number) (previous_at vertices number) number
  pub within : place.point ≤ length edges
  pub cut : IsCut (plan_of vertices) (position_at vertices number) edges (take place.point edges) (drop place.point edges)
  pub beside : AreBeside edges place

-- an edge of the vertex ended in it: a neighbour of it in its ring comes before it
pub record EndsAnEdge (vertices : SweepVertices) (number : ℕ) : Type 0 where
  pub neighbour : ℕ
  pub is : (neighbour ≡ next_at vertices number) ⊎ (neighbour ≡ previous_at vertices number)
  pub before : key_of (position_at vertices neighbour) <ℤ key_of (position_at vertices number)

-- the step over a vertex in which an edge ended
abbrev pub after_an_end : Option Pair → Step
after_an_end (Some pair) = Meets pair
after_an_end None = Ends

-- the meeting that a step came to, if any
abbrev pub met_by : Step → Option Pair
met_by (Meets pair) = Some pair
met_by (Begins place) = None
met_by Ends = None

-- the step over the vertex came to this
abbrev pub IsSweepStep : SweepVertices → ℕ → List ℕ → List ℕ → Step → Type 0
IsSweepStep vertices number before after (Meets pair) = IsMeetingAt vertices pair
IsSweepStep vertices number before after (Begins place) = IsSweptOver vertices number after × IsBegun vertices number place before
IsSweepStep vertices number before after Ends = IsSweptOver vertices number after × EndsAnEdge vertices number

-- What is noted on the way

-- it holds at each key before those of all vertices
abbrev pub AtFirst : SweepVertices → (ℤ → Type 0) → Type 0
AtFirst vertices Holds = (key : ℤ) → ((number : ℕ) → number < sweep_count vertices → key <ℤ key_of (position_at vertices number)) → Holds key

-- it holds at a key that none of the vertices' keys is after
abbrev pub AtLast : SweepVertices → (ℤ → Type 0) → Type 0
AtLast vertices Holds = (key : ℤ) × ((number : ℕ) → number < sweep_count vertices → key_of (position_at vertices number) ≤ℤ key) × Holds key

-- no vertex's key is strictly between this key and that of the vertex
abbrev pub IsAhead : SweepVertices → ℤ → ℕ → Type 0
IsAhead vertices key number = (other : ℕ) → other < sweep_count vertices → key_of (position_at vertices other) ≤ℤ key_of (position_at vertices number)
    → (key_of (position_at vertices other) ≤ℤ key) ⊎ (other ≡ number)

-- both edges of the vertex began in it, in this place among the edges; or an edge ended
abbrev pub HasBegun : SweepVertices → ℕ → List ℕ → Option Split → Type 0
HasBegun vertices number edges (Some place) = IsBegun vertices number place edges
HasBegun vertices number edges None = EndsAnEdge vertices number

-- the line, which met these edges, goes from this key over the vertex, where this began
pub record IsPassed (vertices : SweepVertices) (key : ℤ) (number : ℕ) (begun : Option Split) (edges : List ℕ) : Type 0 where
  pub known : number < sweep_count vertices
  pub swept : IsSwept (plan_of vertices) key edges
  pub next : IsNextVertex vertices number (previous_at vertices number) number edges
  pub ahead : IsAhead vertices key number
  pub has_begun : HasBegun vertices number edges begun

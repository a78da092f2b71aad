-- The vertices of rings in one list. Each has the number of the edge that begins in it.
use Rattle.std.specs.Prelude.{◌≡◌, ◌≢◌, ◌-◌, ◌+◌, ◌==◌, ◌<◌, ltb, cond, ℕ, Bool, List, length, take, slice_get, Option, Some, None, ℤ}
use Rattle.mvt_plane.specs.Geometry.CommonPoint.{IsNamed}
use Rattle.mvt_plane.specs.Geometry.EdgeOrder.{segment_between}
use Rattle.mvt_plane.specs.Geometry.Measure.{orientation}
use Rattle.mvt_fault.specs.declared.ring.RingEdge.{RingEdge}
use Rattle.mvt_plane.specs.Position.{Position}
use Rattle.mvt_plane.specs.Geometry.RationalPoint.{RationalPoint, IsBounded}
use Rattle.mvt_plane.specs.declared.geometry.edge.Edge.{Edge}
use Rattle.mvt_sweep.specs.Calls.Links.{sweep_vertex_in, next_in, position_in, previous_in}
use Rattle.mvt_sweep.specs.Calls.Sweep.{Plan, IsWrong}
use Rattle.mvt_sweep.specs.TurnVertices.{is_turn}
use Rattle.mvt_sweep.specs.Work.{vertex_count}
use Rattle.mvt_sweep.specs.declared.sweep.vertex.SweepVertex.{SweepVertex}
use Rattle.mvt_sweep.specs.declared.sweep.vertices.SweepVertices.{SweepVertices}
use Rattle.mvt_sweep.specs.declared.sweep.vertices.Pair.{Pair}

-- in a ring of so many vertices: the number of the last vertex for the first one, that of the first for the last one,
-- and its own for every other vertex
abbrev pub far_end_of : ℕ → ℕ → ℕ
far_end_of count number = cond (number == 0) (count - 1) (cond (number + 1 == count) 0 number)

-- As numbered in rings

-- The vertices of all rings are numbered ring by ring. This number is that of the vertex at this place: the ring, and
-- the number of the vertex (and of the edge that begins in it) in the ring
pub record IsNumbered (rings : List (List Position)) (number : ℕ) (place : RingEdge) : Type 0 where
  pub ring : List Position
  pub there : slice_get rings place.ring ≡ Some ring
  pub within : place.edge < length ring
  pub numbered : number ≡ vertex_count (take place.ring rings) + place.edge

-- What the sweep has by this number is the vertex of the rings that has it
pub record IsSweepVertexOf (rings : List (List Position)) (number : ℕ) (vertex : SweepVertex) : Type 0 where
  pub place : RingEdge
  pub is : IsNumbered rings number place
  pub here : slice_get is.ring place.edge ≡ Some vertex.position
  pub far_end : vertex.far_end ≡ vertex_count (take place.ring rings) + far_end_of (length is.ring) place.edge

-- the list has all vertices of the rings
pub record IsListOf (rings : List (List Position)) (list : List SweepVertex) : Type 0 where
  pub count : length list ≡ vertex_count rings
  pub each : (number : ℕ) (vertex : SweepVertex) → slice_get list number ≡ Some vertex → IsSweepVertexOf rings number vertex

-- these are all vertices of the rings
abbrev pub AreSweepVertices : List (List Position) → SweepVertices → Type 0
AreSweepVertices rings vertices = IsListOf rings vertices.list.now

-- Vertices by themselves

-- how many there are
abbrev pub sweep_count : SweepVertices → ℕ
sweep_count vertices = length vertices.list.now

-- the vertex of this number
abbrev pub sweep_vertex_at : SweepVertices → ℕ → SweepVertex
sweep_vertex_at vertices number = sweep_vertex_in vertices.list.now number

-- its position
abbrev pub position_at : SweepVertices → ℕ → Position
position_at vertices number = position_in vertices.list.now number

-- whether it is the first one of its ring: its far end comes after it
abbrev pub is_first_at : SweepVertices → ℕ → Bool
is_first_at vertices number = ltb number (sweep_vertex_at vertices number).far_end

-- the number of the vertex after it in its ring, where its edge ends
abbrev pub next_at : SweepVertices → ℕ → ℕ
next_at vertices number = next_in vertices.list.now number

-- and of the vertex before it, whose edge ends in it
abbrev pub previous_at : SweepVertices → ℕ → ℕ
previous_at vertices number = previous_in vertices.list.now number

-- how its ring turns there: on which side of the line to the vertex before it the one after it is
abbrev pub turn_at : SweepVertices → ℕ → ℤ
turn_at vertices number = orientation (position_at vertices number) (position_at vertices (previous_at vertices number)) (position_at vertices (next_at vertices number))

-- whether it is a turn vertex of its ring
abbrev pub is_turn_at : SweepVertices → ℕ → Bool
is_turn_at vertices number = is_turn (position_at vertices (previous_at vertices number)) (position_at vertices number) (position_at vertices (next_at vertices number))

-- the edge that begins in it, as its ring goes
abbrev pub edge_at : SweepVertices → ℕ → Edge
edge_at vertices number = record { a = position_at vertices number; b = position_at vertices (next_at vertices number) }

-- Their edges, to be swept over

-- the vertex that two edges share as neighbours in a ring
abbrev pub shared_at : SweepVertices → ℕ → ℕ → Option Position
shared_at vertices first second =
    cond (next_at vertices first == second) (Some (position_at vertices second))
    (cond (next_at vertices second == first) (Some (position_at vertices first)) None)

-- the edges that begin in the vertices
abbrev pub plan_of : SweepVertices → Plan
plan_of vertices = record {
  count = sweep_count vertices;
  segment = λ (number : ℕ). segment_between (position_at vertices number) (position_at vertices (next_at vertices number));
  shared = shared_at vertices;
}

-- Their meetings

-- the point is the one that is named for the two edges
abbrev pub IsNamedFor : SweepVertices → ℕ → ℕ → RationalPoint → Type 0
IsNamedFor vertices first second point = IsNamed (shared_at vertices first second) (edge_at vertices first) (edge_at vertices second) (Some point)

-- the two edges, in order, meet wrongly: a point is named for them
pub record IsMeetingAt (vertices : SweepVertices) (pair : Pair) : Type 0 where
  pub in_order : pair.first < pair.second
  pub known : pair.second < sweep_count vertices
  pub point : RationalPoint
  pub named : IsNamedFor vertices pair.first pair.second point

-- and this is the point
pub record IsPointOf (vertices : SweepVertices) (first second : ℕ) (point : RationalPoint) : Type 0 where
  pub named : IsNamedFor vertices first second point
  pub bounded : IsBounded point

-- no two of these edges meet wrongly
abbrev pub NoneWrong : SweepVertices → Type 0
NoneWrong vertices = (first second : ℕ) (point : RationalPoint) → first < sweep_count vertices → second < sweep_count vertices → first ≢ second → ¬ IsWrong (plan_of vertices) point first second

-- A walk over the edges of one ring, and what the walk has left (Mapbox Vector Tile Specification 2.1, section 4.3.4.4).
use Rattle.std.specs.Prelude.{◌≡◌, ℕ, suc, ◌<◌, Bool, true, false, cond, List, [], ◌∷◌}
use Rattle.mvt_confirm.specs.Calls.Vertices.{VertexWalk, RingsLeft}
use Rattle.mvt_plane.specs.Position.{Position}
use Rattle.mvt_plane.specs.Geometry.Ring.{edges_through}
use Rattle.mvt_plane.specs.declared.geometry.edge.Edge.{Edge}

-- the walk over the vertices, the ring's first vertex, the one where the next edge begins, and whether the edge back to the
-- first one was given
pub record EdgeWalk : Type 0 where
  pub vertices : VertexWalk
  pub first : Position
  pub from : Position
  pub is_closed : Bool

-- the edges of a ring that a walk has left
pub data EdgesLeft (walk : EdgeWalk) (left : List Edge) : Type 0 where
  -- those through further vertices of the ring, and the one back to the first vertex
  amid : (vertices : List Position) (further : List (List Position)) → walk.is_closed ≡ false → 0 < walk.vertices.left
      → RingsLeft walk.vertices (vertices ∷ further) → left ≡ edges_through walk.first walk.from vertices → EdgesLeft walk left
  -- the one back to the first vertex
  closing : walk.is_closed ≡ false → walk.vertices.left ≡ 0 → left ≡ edges_through walk.first walk.from [] → EdgesLeft walk left
  -- none
  over : walk.is_closed ≡ true → left ≡ [] → EdgesLeft walk left

-- how many edges come next
abbrev pub count_ahead : EdgeWalk → ℕ
count_ahead walk = cond walk.is_closed 0 (suc walk.vertices.left)

-- whichever edges were left, this one was the first of them
abbrev pub GivesEdge : EdgeWalk → EdgeWalk → Edge → Type 0
GivesEdge old new edge = (left : List Edge) → EdgesLeft old left → (rest : List Edge) × (left ≡ edge ∷ rest) × EdgesLeft new rest

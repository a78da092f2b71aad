-- Vertices that are near other rings.
use Rattle.std.proofs.Common.{◌≡◌, ℕ, List, slice_get, Some, sym, ◌∙◌, subst}
use Rattle.std.proofs.lemmas.Option.{same_Some}
use Rattle.mvt_rules.specs.Nesting.{IsVertexOf}
use Rattle.mvt_plane.specs.Geometry.Ring.{edges}
use Rattle.mvt_plane.specs.Position.{Position}
use Rattle.mvt_plane.specs.declared.geometry.edge.Edge.{Edge}
use Rattle.mvt_mend.specs.Calls.Close.{IsCloseToEdge}
use Rattle.mvt_mend.specs.Near.{IsNear}

-- where all vertices of a ring are near, so is each vertex with its number
pub near_vertex : (old new : List (List Position)) (ring : ℕ) (vertices : List Position) → slice_get new ring ≡ Some vertices → ((vertex : ℕ) (position : Position) → slice_get vertices vertex ≡ Some position → IsNear old position)
    → (vertex : ℕ) (position : Position) → IsVertexOf new ring vertex position → IsNear old position
near_vertex old new ring vertices there near vertex position is =
    let same : is.vertices ≡ vertices = same_Some is.vertices vertices (sym is.there ∙ there) in
    near vertex position (subst (λ (list : List Position). slice_get list vertex ≡ Some position) same is.here)

-- what is close to an edge of the rings is near them
pub near_edge : (rings : List (List Position)) (ring vertex : ℕ) (vertices : List Position) (edge : Edge) (position : Position) → slice_get rings ring ≡ Some vertices → slice_get (edges vertices) vertex ≡ Some edge
    → IsCloseToEdge position edge → IsNear rings position
near_edge rings ring vertex vertices edge position there here close = record {
  number = record { ring = ring; edge = vertex };
  edge = edge;
  there = record { ring = vertices; there = there; here = here };
  point = close.point;
  on_edge = close.on_edge;
  close = close.close;
}

-- The edges that pass below a position, by the numbers of the vertices that they begin in.
use Rattle.std.specs.Prelude.{◌≢◌, ℕ, ◌<◌, List}
use Rattle.mvt_plane.specs.Geometry.Below.{IsNotAbove, PassesBelow}
use Rattle.mvt_plane.specs.Position.{Position}
use Rattle.mvt_sweep.specs.Calls.Chain.{EachOne, Has, Ordered}
use Rattle.mvt_sweep.specs.Calls.SweepVertices.{sweep_count, edge_at}
use Rattle.mvt_sweep.specs.declared.sweep.vertices.SweepVertices.{SweepVertices}

-- these are the edges that pass below the position, each once, and none is above one after it
pub record AreBelow (vertices : SweepVertices) (position : Position) (front : List ℕ) : Type 0 where
  pub known : EachOne (λ (edge : ℕ). edge < sweep_count vertices) front
  pub once : Ordered (λ (one other : ℕ). one ≢ other) front
  pub below : EachOne (λ (edge : ℕ). PassesBelow position (edge_at vertices edge)) front
  pub all : (edge : ℕ) → edge < sweep_count vertices → PassesBelow position (edge_at vertices edge) → Has front edge
  pub rising : Ordered (λ (one other : ℕ). IsNotAbove position (edge_at vertices one) (edge_at vertices other)) front

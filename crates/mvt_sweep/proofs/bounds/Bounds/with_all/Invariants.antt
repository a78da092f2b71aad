use Rattle.std.proofs.Common.{◌≡◌, ◌<◌, ℕ, slice_get, Some}
use Rattle.mvt_plane.specs.Position.{Position}
use Rattle.mvt_sweep.specs.Bounds.{IsInBounds}
use Rattle.mvt_sweep.proofs.bounds.Bounds.with_all.Given as goal

-- what was within the bounds is, and so are the vertices so far
abbrev pub invariant-loop-vertex : goal.invariant-loop-vertex
invariant-loop-vertex l = record {
  own : (vertex : Position) → IsInBounds l.initial.bounds vertex → IsInBounds l.bounds vertex;
  more : (number : ℕ) → number < l.vertex-index → (vertex : Position) → slice_get l.ring number ≡ Some vertex → IsInBounds l.bounds vertex;
}

use Rattle.std.proofs.Common.{◌≡◌, ◌<◌, ℕ, slice_get, Some, int_cmp, pos}
use Rattle.mvt_plane.specs.Geometry.Measure.{orientation}
use Rattle.mvt_plane.specs.Position.{Position}
use Rattle.mvt_feature.proofs.feature.lies_in.is_beside.Given as goal

-- the vertices so far are on the side of the first one
abbrev pub invariant-loop-vertex : goal.invariant-loop-vertex
invariant-loop-vertex l = (number : ℕ) → number < l.vertex → (vertex : Position) → slice_get l.ring number ≡ Some vertex → l.first ≡ int_cmp (orientation l.edge.a l.edge.b vertex) (pos 0)

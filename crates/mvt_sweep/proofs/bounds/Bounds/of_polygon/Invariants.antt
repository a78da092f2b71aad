use Rattle.std.proofs.Common.{◌≡◌, ◌<◌, ◌≤◌, ℕ, List, slice_get, Some}
use Rattle.mvt_plane.specs.Position.{Position}
use Rattle.mvt_sweep.specs.Bounds.{AreBoundsOf}
use Rattle.mvt_sweep.specs.Rings.{rings_of}
use Rattle.mvt_sweep.proofs.bounds.Bounds.of_polygon.Given as goal

-- the vertices of the rings so far are within the bounds
abbrev pub invariant-loop-hole : goal.invariant-loop-hole
invariant-loop-hole l = (ring : ℕ) → ring < l.hole → l.exterior ≤ ring → (vertices : List Position) → slice_get (rings_of l.rings) ring ≡ Some vertices → AreBoundsOf vertices l.bounds

use Rattle.std.proofs.Common.{◌≡◌, ◌≤◌, ℕ, ◌<◌, slice_get, Some}
use Rattle.mvt_plane.specs.Position.{Position}
use Rattle.mvt_sweep.specs.Rings.{rings_of}
use Rattle.mvt_mend.specs.Near.{IsNear}
use Rattle.mvt_mend.proofs.near.is_ring_near.Given as goal

-- the vertices so far are near, and there is no more work than before
abbrev pub invariant-loop-vertex : goal.invariant-loop-vertex
invariant-loop-vertex l = record {
  near : (vertex : ℕ) → vertex < l.vertex → (position : Position) → slice_get l.vertices vertex ≡ Some position → IsNear (rings_of l.old) position;
  no_more : l.work ≤ l.initial.work;
}

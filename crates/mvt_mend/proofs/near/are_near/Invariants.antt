use Rattle.std.proofs.Common.{◌≤◌, ℕ, ◌<◌}
use Rattle.mvt_rules.specs.Nesting.{IsVertexOf}
use Rattle.mvt_plane.specs.Position.{Position}
use Rattle.mvt_sweep.specs.Rings.{rings_of}
use Rattle.mvt_mend.specs.Near.{IsNear}
use Rattle.mvt_mend.proofs.near.are_near.Given as goal

-- the vertices of the rings so far are near, and there is no more work than before
abbrev pub invariant-loop-ring : goal.invariant-loop-ring
invariant-loop-ring l = record {
  near : (ring : ℕ) → ring < l.ring → (vertex : ℕ) (position : Position) → IsVertexOf (rings_of l.new) ring vertex position → IsNear (rings_of l.old) position;
  no_more : l.work ≤ l.initial.work;
}

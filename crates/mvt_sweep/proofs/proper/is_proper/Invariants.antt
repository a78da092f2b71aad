use Rattle.std.proofs.Common.{◌≡◌, ◌≢◌, ℕ, ◌<◌, length, slice_get, Some}
use Rattle.mvt_plane.specs.Geometry.Ring.{next_round}
use Rattle.mvt_plane.specs.Position.{Position}
use Rattle.mvt_sweep.proofs.proper.is_proper.Given as goal

-- none of the vertices so far is at the position of the next one
abbrev pub invariant-loop-vertex : goal.invariant-loop-vertex
invariant-loop-vertex l = (vertex : ℕ) → vertex < l.vertex → (position next : Position) → slice_get l.ring vertex ≡ Some position
    → slice_get l.ring (next_round (length l.ring) vertex) ≡ Some next → position ≢ next

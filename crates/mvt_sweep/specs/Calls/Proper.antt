-- One proper ring.
use Rattle.std.specs.Prelude.{◌≡◌, ◌≢◌, ◌≤◌, ℕ, List, length, slice_get, Some}
use Rattle.mvt_plane.specs.Geometry.Ring.{next_round}
use Rattle.mvt_plane.specs.Position.{Position}

-- the ring has three vertices or more, and none is at the position of the next one
pub record IsProperRing (ring : List Position) : Type 0 where
  pub several : 3 ≤ length ring
  pub apart : (vertex : ℕ) (position next : Position) → slice_get ring vertex ≡ Some position
      → slice_get ring (next_round (length ring) vertex) ≡ Some next → position ≢ next

-- A walk over the tags of a feature (Mapbox Vector Tile Specification 2.1, section 4.2).
use Rattle.std.specs.Prelude.{ℕ, ◌≤◌, List, length, drop, None}
use Rattle.mvt_wire.specs.Numbers.{NumberWalk, NumbersLeft}

-- the walk has passed so many of the tags, and the others are left
pub record HasPassed (tags : List ℕ) (walk : NumberWalk) (passed : ℕ) : Type 0 where
  pub within : passed ≤ length tags
  pub left : NumbersLeft walk (drop passed tags) None

use Rattle.std.proofs.Common.{ℕ, ◌<◌}
use Rattle.mvt_polygon.specs.Calls.Nesting.{IsHoleAround}
use Rattle.mvt_sweep.specs.Rings.{rings_of}
use Rattle.mvt_polygon.proofs.nesting.hole_around.Given as goal

-- the position is inside none of the holes so far
abbrev pub invariant-loop-other : goal.invariant-loop-other
invariant-loop-other l = (other : ℕ) → other < l.other → ¬ IsHoleAround (rings_of l.rings) l.ring l.position other

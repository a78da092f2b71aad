use Rattle.std.proofs.Common.{ℕ, ◌<◌}
use Rattle.mvt_polygon.specs.Apart.{IsPolygonAround}
use Rattle.mvt_sweep.specs.Rings.{rings_of}
use Rattle.mvt_polygon.proofs.apart.polygon_around.Given as goal

-- the position is inside none of the other polygons so far
abbrev pub invariant-loop-other : goal.invariant-loop-other
invariant-loop-other l = (other : ℕ) → other < l.other → ¬ IsPolygonAround (rings_of l.rings) l.polygon l.position other

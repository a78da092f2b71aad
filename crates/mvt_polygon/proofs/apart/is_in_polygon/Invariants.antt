use Rattle.mvt_polygon.proofs.ApartFaults.{IsInNoHole}
use Rattle.mvt_sweep.specs.Rings.{rings_of}
use Rattle.mvt_polygon.proofs.apart.is_in_polygon.Given as goal

-- the position is inside none of the holes so far
abbrev pub invariant-loop-hole : goal.invariant-loop-hole
invariant-loop-hole l = IsInNoHole (rings_of l.rings) l.exterior l.position l.hole

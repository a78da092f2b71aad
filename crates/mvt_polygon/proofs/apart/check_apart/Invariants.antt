use Rattle.mvt_polygon.proofs.ApartFaults.{AreApartBefore}
use Rattle.mvt_sweep.specs.Rings.{rings_of}
use Rattle.mvt_polygon.proofs.apart.check_apart.Given as goal

-- the vertices so far are inside no other polygon
abbrev pub invariant-loop-vertex : goal.invariant-loop-vertex
invariant-loop-vertex l = AreApartBefore (rings_of l.rings) l.polygon l.vertex

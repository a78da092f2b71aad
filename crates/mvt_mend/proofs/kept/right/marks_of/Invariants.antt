use Rattle.mvt_sweep.specs.Rings.{rings_of}
use Rattle.mvt_mend.proofs.RightPolygons.{AreMarkedUpTo}
use Rattle.mvt_mend.proofs.kept.right.marks_of.Given as goal

-- the polygons so far are marked
abbrev pub invariant-loop-polygon : goal.invariant-loop-polygon
invariant-loop-polygon l = AreMarkedUpTo (rings_of l.rings) l.right.items l.polygon

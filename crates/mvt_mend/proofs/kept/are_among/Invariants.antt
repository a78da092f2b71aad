use Rattle.mvt_sweep.specs.Rings.{rings_of}
use Rattle.mvt_mend.proofs.KeptPolygons.{AreKeptBefore}
use Rattle.mvt_mend.proofs.kept.are_among.Given as goal

-- the polygons so far that are marked are there, before the next one
abbrev pub invariant-loop-polygon : goal.invariant-loop-polygon
invariant-loop-polygon l = AreKeptBefore (rings_of l.old) (rings_of l.new) l.right l.polygon l.next

use Rattle.mvt_feature.specs.Calls.Lands.{AreOfFailing}
use Rattle.mvt_feature.proofs.feature.islands.of_failing.Given as goal

-- the polygons so far have their marks
abbrev pub invariant-loop-polygon : goal.invariant-loop-polygon
invariant-loop-polygon l = AreOfFailing l.cells l.failing l.polygon l.marks.items

use Rattle.mvt_feature.specs.Calls.Lands.{AreFailing}
use Rattle.mvt_sweep.specs.Rings.{rings_of}
use Rattle.mvt_feature.proofs.feature.islands.failing_cells.Given as goal

-- the polygons so far are checked
abbrev pub invariant-loop-polygon : goal.invariant-loop-polygon
invariant-loop-polygon l = AreFailing (rings_of l.rings) l.polygons l.cells l.lands l.lakes l.polygon l.failing.items

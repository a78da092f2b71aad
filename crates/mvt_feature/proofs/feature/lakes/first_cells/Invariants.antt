use Rattle.std.proofs.Common.{length}
use Rattle.mvt_feature.specs.Calls.Lands.{AreFirstCells}
use Rattle.mvt_feature.proofs.feature.lakes.first_cells.Given as goal

-- the rings of the polygons so far have their cells
abbrev pub invariant-loop-polygon : goal.invariant-loop-polygon
invariant-loop-polygon l = AreFirstCells l.polygons l.cells l.lands l.polygon (length l.rings) l.first.items

use Rattle.mvt_feature.specs.Calls.Lands.{AreLands}
use Rattle.mvt_feature.proofs.feature.lands.lands.Given as goal

-- the cells of the polygons so far have lands
abbrev pub invariant-loop-polygon : goal.invariant-loop-polygon
invariant-loop-polygon l = AreLands l.cells l.polygon l.lands.items

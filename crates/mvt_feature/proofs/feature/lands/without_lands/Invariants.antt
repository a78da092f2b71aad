use Rattle.mvt_feature.specs.Calls.Lands.{AreWithoutLands}
use Rattle.mvt_feature.proofs.feature.lands.without_lands.Given as goal

-- the polygons so far have their cells
abbrev pub invariant-loop-polygon : goal.invariant-loop-polygon
invariant-loop-polygon l = AreWithoutLands l.cells l.lands l.polygon l.others.items

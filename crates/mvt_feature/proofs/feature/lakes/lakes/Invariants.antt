use Rattle.mvt_feature.specs.Calls.Lands.{AreLakes, AreLakesUnmarked}
use Rattle.mvt_sweep.specs.Rings.{rings_of}
use Rattle.mvt_feature.proofs.feature.lakes.lakes.Given as goal

-- the lakes of the polygons so far
abbrev pub invariant-loop-polygon : goal.invariant-loop-polygon
invariant-loop-polygon l = record {
  only : AreLakes (rings_of l.rings) l.polygons l.cells l.lands l.polygon l.lakes.items;
  unmarked : AreLakesUnmarked l.marks l.lakes.items;
}

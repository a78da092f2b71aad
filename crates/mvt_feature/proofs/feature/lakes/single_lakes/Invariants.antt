use Rattle.std.proofs.Common.{List}
use Rattle.mvt_plane.specs.Position.{Position}
use Rattle.mvt_feature.specs.Calls.Lands.{AreLakes, AreLakesUnmarked}
use Rattle.mvt_feature.proofs.feature.lakes.single_lakes.Given as goal

-- the lakes of the polygons so far
abbrev pub invariant-loop-polygon : goal.invariant-loop-polygon
invariant-loop-polygon l = record {
  only : (rings : List (List Position)) → AreLakes rings l.polygons l.cells l.lands l.polygon l.lakes.items;
  unmarked : AreLakesUnmarked l.marks l.lakes.items;
}

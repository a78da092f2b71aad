use Rattle.mvt_feature.specs.Calls.Lands.{AreHeld}
use Rattle.mvt_feature.proofs.feature.lakes.held_holes.Given as goal

-- the holes of the polygons so far are held
abbrev pub invariant-loop-polygon : goal.invariant-loop-polygon
invariant-loop-polygon l = AreHeld l.polygons l.ring_cells l.polygon l.held.items

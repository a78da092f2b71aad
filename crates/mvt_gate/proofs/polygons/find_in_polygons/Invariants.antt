use Rattle.std.proofs.Common.{◌≡◌, ◌-◌, None, length}
use Rattle.mvt_sweep.specs.Rings.{rings_of}
use Rattle.mvt_gate.proofs.PolygonWalk.{HasPassed}
use Rattle.mvt_gate.proofs.polygons.find_in_polygons.Given as goal

abbrev pub invariant-polygons : goal.invariant-polygons
invariant-polygons l = HasPassed (rings_of l.rings) l.polygon l.exterior × (l.found ≡ None)

abbrev pub decreases-polygons : goal.decreases-polygons
decreases-polygons l = length l.rings - l.exterior

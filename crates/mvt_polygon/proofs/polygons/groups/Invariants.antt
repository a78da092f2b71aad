use Rattle.std.proofs.Common.{◌-◌, length}
use Rattle.mvt_sweep.specs.Rings.{rings_of}
use Rattle.mvt_polygon.proofs.PolygonList.{AreListed}
use Rattle.mvt_polygon.proofs.polygons.groups.Given as goal

-- the polygons of the rings before this one are listed
abbrev pub invariant-polygons : goal.invariant-polygons
invariant-polygons l = AreListed (rings_of l.rings) l.polygons.items l.exterior

-- rings that are left
abbrev pub decreases-polygons : goal.decreases-polygons
decreases-polygons l = length l.rings - l.exterior

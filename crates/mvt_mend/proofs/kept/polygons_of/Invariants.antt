use Rattle.std.proofs.Common.{◌-◌, length}
use Rattle.mvt_sweep.specs.Rings.{rings_of}
use Rattle.mvt_mend.proofs.PolygonLists.{AreListedFrom}
use Rattle.mvt_mend.proofs.kept.polygons_of.Given as goal

-- the polygons of the rings before this one are listed
abbrev pub invariant-polygons : goal.invariant-polygons
invariant-polygons l = AreListedFrom (rings_of l.rings) l.polygons.items l.initial.exterior l.exterior

-- rings that are left
abbrev pub decreases-polygons : goal.decreases-polygons
decreases-polygons l = length l.rings - l.exterior

use Rattle.mvt_feature.specs.Calls.Bounds.{AreLaterBounds}
use Rattle.mvt_sweep.specs.Rings.{rings_of}
use Rattle.mvt_feature.proofs.feature.later.spread.bounds_of.Given as goal

-- the bounds so far are those of the polygons so far
abbrev pub invariant-loop-other : goal.invariant-loop-other
invariant-loop-other l = AreLaterBounds (rings_of l.rings) l.polygons l.later l.other l.bounds.items

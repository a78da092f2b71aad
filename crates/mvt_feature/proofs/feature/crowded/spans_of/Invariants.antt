use Rattle.mvt_feature.specs.Calls.Cells.{AreSpansOf}
use Rattle.mvt_sweep.specs.Rings.{rings_of}
use Rattle.mvt_feature.proofs.feature.crowded.spans_of.Given as goal

-- those of the polygons so far
abbrev pub invariant-loop-polygon : goal.invariant-loop-polygon
invariant-loop-polygon l = AreSpansOf (rings_of l.rings) l.polygons l.polygon l.across.items l.upward.items

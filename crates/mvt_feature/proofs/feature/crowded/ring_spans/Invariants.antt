use Rattle.mvt_feature.specs.Calls.Cells.{AreRingSpans}
use Rattle.mvt_sweep.specs.Rings.{rings_of}
use Rattle.mvt_feature.proofs.feature.crowded.ring_spans.Given as goal

-- those of the rings so far
abbrev pub invariant-loop-ring : goal.invariant-loop-ring
invariant-loop-ring l = AreRingSpans (rings_of l.rings) l.ring l.across.items l.upward.items

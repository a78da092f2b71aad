use Rattle.mvt_feature.specs.Calls.Bounds.{AreReaches}
use Rattle.mvt_feature.proofs.Cells.SpreadOrder.{IsReachBefore}
use Rattle.mvt_feature.proofs.feature.later.spread.reaches_of.Given as goal

-- the reaches so far, and the last one of them
abbrev pub invariant-loop-at : goal.invariant-loop-at
invariant-loop-at l = record {
  reaches : AreReaches l.bounds l.order l.at l.reaches.items;
  reach : IsReachBefore l.bounds l.order l.at l.reach;
}

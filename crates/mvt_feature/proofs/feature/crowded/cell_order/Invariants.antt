use Rattle.mvt_feature.specs.Calls.Cells.{AreNumbered}
use Rattle.mvt_feature.proofs.feature.crowded.cell_order.Given as goal

-- the marked ones of the numbers so far
abbrev pub invariant-loop-number : goal.invariant-loop-number
invariant-loop-number l = AreNumbered l.spans l.cells l.marks l.number l.order.items

use Rattle.mvt_feature.proofs.Cells.SpreadOrder.{AreNumbered}
use Rattle.mvt_feature.proofs.feature.later.spread.order_of.Given as goal

-- the bounds so far are in the order of their numbers
abbrev pub invariant-loop-number : goal.invariant-loop-number
invariant-loop-number l = AreNumbered l.bounds l.number l.order.items

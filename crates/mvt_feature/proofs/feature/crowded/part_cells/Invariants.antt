use Rattle.mvt_feature.proofs.Cells.PartedCells.{ArePartedTo}
use Rattle.mvt_feature.proofs.feature.crowded.part_cells.Given as goal

-- the numbers before this place of the order have their new cells
abbrev pub invariant-loop-at : goal.invariant-loop-at
invariant-loop-at l = ArePartedTo l.spans l.fn.cells l.order.items l.cells l.at l.cell l.reach

use Rattle.mvt_feature.proofs.Cells.SharedCells.{AreMarkedTo}
use Rattle.mvt_feature.proofs.feature.crowded.shared_cells.Given as goal

-- the numbers so far of whose cells others are kept are marked, and the kept ones too
abbrev pub invariant-loop-number : goal.invariant-loop-number
invariant-loop-number l = AreMarkedTo l.cells l.owners.items l.number l.shared.items

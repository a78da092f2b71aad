use Rattle.std.proofs.Common.{length}
use Rattle.mvt_feature.specs.Calls.Cells.{AreCells}
use Rattle.mvt_feature.proofs.feature.crowded.owners.Given as goal

-- what is kept are numbers
abbrev pub invariant-loop-number : goal.invariant-loop-number
invariant-loop-number l = AreCells (length l.cells) l.owners.items

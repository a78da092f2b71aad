use Rattle.std.proofs.Common.{ℕ, List}
use Rattle.mvt_tile.specs.Calls.PassedTags.{ArePassedSoFar}
use Rattle.mvt_tile.proofs.walk.tags.pass_tags.Given as goal

-- the pairs that were passed have no fault, and the rest is left
abbrev pub invariant-pairs : goal.invariant-pairs
invariant-pairs g l = (given : List ℕ) → g.N.NumberSource.Leaves l.fn.tags given → ArePassedSoFar (g.N.NumberSource.Leaves l.tags) l.marks given l.needs

abbrev pub decreases-pairs : goal.decreases-pairs
decreases-pairs g l = g.N.NumberSource.most l.tags

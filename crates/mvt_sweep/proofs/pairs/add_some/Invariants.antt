use Rattle.mvt_sweep.specs.Calls.Pairs.{AreEnough}
use Rattle.mvt_sweep.proofs.pairs.add_some.Given as goal

-- the edge was held against those so far
abbrev pub invariant-loop-first : goal.invariant-loop-first
invariant-loop-first l = AreEnough l.vertices l.pairs.items l.second l.first

use Rattle.mvt_sweep.specs.Calls.Pairs.{AreEdgeBounds}
use Rattle.mvt_sweep.proofs.pairs.list_bounds.Given as goal

-- the bounds of the edges so far are there
abbrev pub invariant-loop-number : goal.invariant-loop-number
invariant-loop-number l = AreEdgeBounds l.vertices l.number l.bounds

use Rattle.mvt_feature.specs.Calls.Islands.{AreClearBefore}
use Rattle.mvt_feature.proofs.feature.lies_in.is_clear.Given as goal

-- the edges so far have nothing in common with the ring
abbrev pub invariant-loop-number : goal.invariant-loop-number
invariant-loop-number l = AreClearBefore l.ring l.around l.number

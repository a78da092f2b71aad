use Rattle.std.proofs.Common.{◌-◌, ◌<◌}
use Rattle.mvt_sweep.specs.Calls.Pairs.{AreEnough}
use Rattle.mvt_sweep.proofs.pairs.add_far.Given as goal

-- the edge was held against those so far
abbrev pub invariant-fours : goal.invariant-fours
invariant-fours l = record {
  enough : AreEnough l.vertices l.pairs.items l.second l.first;
  forward : l.first < l.second;
}

abbrev pub decreases-fours : goal.decreases-fours
decreases-fours l = l.second - l.first

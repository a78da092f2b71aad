use Rattle.std.proofs.Common.{◌≤◌}
use Rattle.mvt_sweep.specs.Work.{AddsWork}
use Rattle.mvt_sweep.specs.Calls.Pairs.{AreEnough, probes_of}
use Rattle.mvt_status.specs.Counts.{raised}
use Rattle.mvt_sweep.proofs.pairs.find_pairs.Given as goal

-- the edges so far were held against each other, with so many probes
abbrev pub invariant-loop-second : goal.invariant-loop-second
invariant-loop-second l = record {
  enough : AreEnough l.vertices l.pairs.items l.second 0;
  counted : AddsWork 0 (probes_of l.second) 0 l.fn.count l.count;
  probed : raised (probes_of l.second) l.fn.count.probes ≤ l.count.probes;
}

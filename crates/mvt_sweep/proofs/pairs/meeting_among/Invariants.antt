use Rattle.std.proofs.Common.{◌≤◌, ℕ, All, take}
use Rattle.mvt_sweep.specs.Work.{AddsWork}
use Rattle.mvt_sweep.specs.Calls.SweepVertices.{plan_of}
use Rattle.mvt_sweep.specs.Calls.Sweep.{Tested}
use Rattle.mvt_status.specs.Counts.{raised}
use Rattle.mvt_sweep.proofs.pairs.meeting_among.Given as goal

-- the pairs so far were tested, with a test for each
abbrev pub invariant-loop-at : goal.invariant-loop-at
invariant-loop-at l = record {
  tested : All (λ (pair : ℕ × ℕ). Tested (plan_of l.vertices) pair.0 pair.1) (take l.at l.pairs);
  counted : AddsWork l.at 0 0 l.fn.count l.count;
  least : raised l.at l.fn.count.tests ≤ l.count.tests;
}

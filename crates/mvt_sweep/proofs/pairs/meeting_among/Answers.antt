use Rattle.std.proofs.Common.{ℕ, All, subst, arith}
use Rattle.std.proofs.lemmas.List.{take_all}
use Rattle.std.proofs.lemmas.List.Elements.{All-more}
use Rattle.mvt_sweep.specs.Calls.SweepVertices.{plan_of}
use Rattle.mvt_sweep.specs.Calls.Sweep.{Tested}
use Rattle.mvt_sweep.specs.Rings.{rings_of}
use Rattle.mvt_sweep.proofs.Vertices.PairsEnough.{none_by_pairs}
use Rattle.mvt_sweep.proofs.Vertices.VertexPlans.{none_of_rings}
use Rattle.mvt_sweep.proofs.Sweeps.StatusCounts.{no_work, work_then}
use Rattle.mvt_sweep.proofs.pairs.meeting_among.Goals as goal

pub loop-at-init : goal.loop-at-init
loop-at-init c = record { tested = λ k d none. absurd (omega arith); counted = no_work c.args.count.now; least = omega arith }

pub loop-at-preserved : goal.loop-at-preserved
loop-at-preserved c =
    let tested = rw c.in_default.is at c.meeting_of_pair.ensures.none in
    record {
      tested = All-more (λ (pair : ℕ × ℕ). Tested (plan_of c.args.vertices.now) pair.0 pair.1) c.args.pairs.now c.loop-at.at (0, 0) c.loop-at-test.true c.loop-at.invariant.tested tested;
      counted = work_then c.loop-at.invariant.counted c.meeting_of_pair.ensures.counted;
      least = omega (arith, c.loop-at.invariant.least, c.meeting_of_pair.ensures.tested);
    }

pub returns-clause-none : goal.returns-clause-none
returns-clause-none c =
    none_of_rings (rings_of c.args.rings.now) c.args.vertices.now c.requires.rings c.requires.vertices (none_by_pairs c.args.vertices.now c.args.pairs.now c.requires.pairs
    (subst (All (λ (pair : ℕ × ℕ). Tested (plan_of c.args.vertices.now) pair.0 pair.1)) (take_all c.loop-at.at c.args.pairs.now (omega (arith, c.loop-at-test.false))) c.loop-at.invariant.tested))

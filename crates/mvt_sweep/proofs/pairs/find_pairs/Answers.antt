use Rattle.std.proofs.Common.{◌≤◌, ℕ, ◌+◌, ◌*◌, List, refl, sym, subst, arith}
use Rattle.mvt_sweep.specs.Calls.Pairs.{AreEnough, probes_of}
use Rattle.mvt_sweep.proofs.Sweeps.LeastWork.{few_probes, probes_enough, probes_of_more}
use Rattle.mvt_sweep.proofs.Vertices.PairsEnough.{enough_of_none, enough_to_next}
use Rattle.mvt_sweep.proofs.Sweeps.StatusCounts.{no_work, work_then, work_within}
use Rattle.mvt_sweep.proofs.pairs.find_pairs.Goals as goal

pub loop-second-init : goal.loop-second-init
unfolding probes_of
loop-second-init c = record { enough = subst (λ (pairs : List (ℕ × ℕ)). AreEnough c.args.vertices.now pairs 0 0) (sym c.requires.empty) (enough_of_none c.args.vertices.now); counted = no_work c.args.count.now; probed = omega arith }

pub loop-second-preserved : goal.loop-second-preserved
loop-second-preserved c =
    let so_far = c.loop-second.invariant in
    let more = probes_of_more c.loop-second.second in
    record {
      enough = enough_to_next c.args.vertices.now c.add_pairs.new.pairs.items c.loop-second.second (c.if-not-add_pairs.ensures.enough refl);
      counted = work_within (omega arith) (omega (arith, more)) (omega arith) (work_then so_far.counted c.add_pairs.ensures.counted);
      probed = omega (arith, so_far.probed, c.if-not-add_pairs.ensures.probed refl, more);
    }

pub returns-then-not-add_pairs-clause-counted : goal.returns-then-not-add_pairs-clause-counted
returns-then-not-add_pairs-clause-counted c =
    let next : ℕ = c.loop-second.second + 1 in
    let few : probes_of next ≤ 8 * next = few_probes next (omega (arith, c.loop-second-test.true, c.requires.few)) in
    work_within (omega arith) (omega (arith, probes_of_more c.loop-second.second, few, c.loop-second-test.true)) (omega arith)
    (work_then c.loop-second.invariant.counted c.add_pairs.ensures.counted)

pub returns-clause-counted : goal.returns-clause-counted
returns-clause-counted c =
    let few = few_probes c.loop-second.second (omega (arith, c.loop-second.auto.second-end, c.requires.few)) in
    work_within (omega arith) (omega (arith, few, c.loop-second.auto.second-end)) (omega arith) c.loop-second.invariant.counted

pub returns-clause-probed : goal.returns-clause-probed
returns-clause-probed c = λ yes. omega (arith, c.loop-second.invariant.probed, probes_enough c.loop-second.second, c.loop-second-test.false, c.loop-second.auto.second-end)

-- What is counted at least.
use Rattle.std.proofs.Common.{add-one, ap, ◌≡◌, ℕ, zero, suc, ◌+◌, ◌*◌, ◌/◌, ◌≤◌, Option, Some, None, IfSome, sym, subst, arith}
use Rattle.std.proofs.Math.Nat.{mul-le-mul_right}
use Rattle.mvt_plane.specs.Counted.{Counted, ticked}
use Rattle.mvt_sweep.specs.Work.{IsCounted}
use Rattle.mvt_sweep.specs.Calls.Pairs.{probes_of}
use Rattle.mvt_sweep.specs.Calls.Steps.{after_an_end, met_by}
use Rattle.mvt_sweep.specs.declared.sweep.vertices.Pair.{Pair}
use Rattle.mvt_sweep.specs.declared.sweep.step.Step.{Step}
use Rattle.mvt_sweep.specs.declared.sweep.step.Step.TheVariants.{Meets}
use Rattle.mvt_status.specs.Counts.{raised}

-- so many probes were made before a last test, which found what is answered
pub counted_by : {T : Type 0} (probes : ℕ) (before between after : Counted) (found : Option T) → before.tests ≤ between.tests → raised probes before.probes ≤ after.probes
    → IfSome found (λ _. ticked between.tests ≤ after.tests) → IsCounted probes before after found
counted_by probes before between after None fewer least tested = least
counted_by probes before between after (Some it) fewer least tested = omega (arith, fewer, tested)

-- what was found was tested
pub tested_there : {T : Type 0} (before after : Counted) (found : Option T) → IsCounted 0 before after found → IfSome found (λ _. ticked before.tests ≤ after.tests)
tested_there before after None counted = tt
tested_there before after (Some it) counted = counted

-- A step

-- a step over a vertex in which an edge ended
pub counted_after_an_end : (before after : Counted) (found : Option Pair) (step : Step) → step ≡ after_an_end found → IsCounted 1 before after found
    → IsCounted 1 before after (met_by step)
counted_after_an_end before after None step is counted = subst (λ (step : Step). IsCounted 1 before after (met_by step)) (sym is) counted
counted_after_an_end before after (Some pair) step is counted = subst (λ (step : Step). IsCounted 1 before after (met_by step)) (sym is) counted

-- a step that came to a meeting made a test
pub tested_step : (before after : Counted) (step : Step) (pair : Pair) → step ≡ Meets pair → IsCounted 1 before after (met_by step) → ticked before.tests ≤ after.tests
tested_step before after step pair is counted = subst (λ (step : Step). IsCounted 1 before after (met_by step)) is counted

-- Pairs

-- eight times as many probes are less than the square and seven times the edges
eight_probes : (edges : ℕ) → 8 * probes_of edges ≤ edges * (edges + 7)
unfolding probes_of
eight_probes zero = omega arith
eight_probes (suc edges) = omega (arith, eight_probes edges)

-- of at most 40 edges there are at most eight for each
pub few_probes : (edges : ℕ) → edges ≤ 40 → probes_of edges ≤ 8 * edges
few_probes edges few = omega (arith, eight_probes edges, mul-le-mul_right edges few)

-- one edge more
pub probes_of_more : (edges : ℕ) → probes_of edges + (edges / 4 + 1) ≡ probes_of (edges + 1)
unfolding probes_of
probes_of_more edges = ap probes_of (sym (add-one edges))

-- there is a probe for each edge
pub probes_enough : (edges : ℕ) → edges ≤ probes_of edges
unfolding probes_of
probes_enough zero = omega arith
probes_enough (suc edges) = omega (arith, probes_enough edges)

-- How many edges a status has, and what that says of its work.
use Rattle.std.proofs.Common.{◌≡◌, ◌≢◌, ◌<◌, ◌≤◌, ◌+◌, ◌*◌, ℕ, false, List, [], ◌∷◌, eqb, length, ℤ, arith}
use Rattle.std.proofs.Math.Nat.{mul-le-mul_left}
use Rattle.std.proofs.lemmas.Bool.{eqb-true, ne_eqb}
use Rattle.std.proofs.lemmas.List.Elements.{All-contains}
use Rattle.std.proofs.lemmas.Map.Steps.{length-le_from_distinct_below}
use Rattle.std.proofs.lemmas.Map.Views.{Contains-from_any}
use Rattle.std.specs.List.{AllByRecursion, IsDistinct}
use Rattle.mvt_plane.specs.Counted.{Counted}
use Rattle.mvt_sweep.specs.Calls.Chain.{EachOne, Ordered}
use Rattle.mvt_sweep.specs.Work.{AddsWork}
use Rattle.mvt_sweep.specs.Calls.Sweep.{Plan, IsPlan, IsSwept}
use Rattle.mvt_sweep.proofs.Chains.ChainParts.{each_all}
use Rattle.mvt_sweep.proofs.Sweeps.StatusPlaces.{all_known}
use Rattle.mvt_sweep.proofs.Sweeps.SweepSlabs.{swept_differ}
use Rattle.mvt_status.specs.Counts.{AddsAtMost, bits}
use Rattle.mvt_status.proofs.BinaryDigits.{no_more_digits}

-- How many edges

-- numbers that differ are distinct, as the library says it
distinct : (edges : List ℕ) → Ordered (λ (a b : ℕ). a ≢ b) edges → IsDistinct eqb edges
unfolding IsDistinct
distinct [] apart = tt
distinct (edge ∷ rest) apart = (others rest apart.0, distinct rest apart.1)
  where
    others : (rest : List ℕ) → EachOne (λ (that : ℕ). edge ≢ that) rest → AllByRecursion (λ (that : ℕ). eqb edge that ≡ false) rest
    others [] apart = tt
    others (that ∷ rest) apart = (ne_eqb edge that apart.0, others rest apart.1)

-- distinct numbers below a bound are at most so many
few_below : (bound : ℕ) (edges : List ℕ) → EachOne (λ (edge : ℕ). edge < bound) edges → Ordered (λ (a b : ℕ). a ≢ b) edges → length edges ≤ bound
few_below bound edges within apart =
    length-le_from_distinct_below edges bound (distinct edges apart)
    (λ it found. All-contains (λ (edge : ℕ). edge < bound) edges it (each_all (λ (edge : ℕ). edge < bound) edges within) (Contains-from_any eqb-true it edges found))

-- the line meets no more edges than there are
pub few_swept : (plan : Plan) (key : ℤ) (edges : List ℕ) → IsPlan plan → IsSwept plan key edges → length edges ≤ plan.count
few_swept plan key edges is_plan swept = few_below plan.count edges (all_known plan key edges swept) (swept_differ plan key edges is_plan swept)

-- Work

-- no work is within any bounds
pub no_work : {tests probes visits : ℕ} (count : Counted) → AddsWork tests probes visits count count
no_work count = record {
  tests_added = omega arith;
  probes_added = omega arith;
  visits_added = omega arith;
  no_fewer_tests = omega arith;
  no_fewer_probes = omega arith;
  no_fewer_visits = omega arith;
}

-- one work and then another
pub work_then : {tests probes visits other_tests other_probes other_visits : ℕ} {before between after : Counted} → AddsWork tests probes visits before between
    → AddsWork other_tests other_probes other_visits between after → AddsWork (tests + other_tests) (probes + other_probes) (visits + other_visits) before after
work_then first second = record {
  tests_added = omega (arith, first.tests_added, second.tests_added);
  probes_added = omega (arith, first.probes_added, second.probes_added);
  visits_added = omega (arith, first.visits_added, second.visits_added);
  no_fewer_tests = omega (arith, first.no_fewer_tests, second.no_fewer_tests);
  no_fewer_probes = omega (arith, first.no_fewer_probes, second.no_fewer_probes);
  no_fewer_visits = omega (arith, first.no_fewer_visits, second.no_fewer_visits);
}

-- it is also no more than a greater bound
pub work_within : {tests probes visits most_tests most_probes most_visits : ℕ} {before after : Counted} → tests ≤ most_tests → probes ≤ most_probes → visits ≤ most_visits
    → AddsWork tests probes visits before after → AddsWork most_tests most_probes most_visits before after
work_within tests probes visits work = record {
  tests_added = omega (arith, work.tests_added);
  probes_added = omega (arith, work.probes_added);
  visits_added = omega (arith, work.visits_added);
  no_fewer_tests = work.no_fewer_tests;
  no_fewer_probes = work.no_fewer_probes;
  no_fewer_visits = work.no_fewer_visits;
}

-- what a status adds
work_of_status : {probes visits : ℕ} {before after : Counted} → AddsAtMost probes visits before after → AddsWork 0 probes visits before after
work_of_status added = record {
  tests_added = omega (arith, added.tests);
  probes_added = added.probes_added;
  visits_added = added.visits_added;
  no_fewer_tests = omega (arith, added.tests);
  no_fewer_probes = added.no_fewer_probes;
  no_fewer_visits = added.no_fewer_visits;
}

-- for so many edits of it, or searches for a place
pub work_of_edits : (times edges vertices : ℕ) {before after : Counted} → edges ≤ vertices → AddsAtMost 0 (times * bits edges) before after → AddsWork 0 0 (times * bits vertices) before after
work_of_edits times edges vertices few added = work_within (omega arith) (omega arith) (mul-le-mul_left times (no_more_digits edges vertices few)) (work_of_status added)

-- to search for an edge's place, with those beside it
pub work_of_split : (edges vertices : ℕ) {before after : Counted} → edges ≤ vertices → AddsAtMost (2 * bits edges) (6 * bits edges) before after
    → AddsWork 0 (2 * bits vertices) (6 * bits vertices) before after
work_of_split edges vertices few added =
    let digits = no_more_digits edges vertices few in
    work_within (omega arith) (omega arith) (omega arith) (work_of_status added)

-- What is counted of a sweep's work.
use Rattle.std.specs.Prelude.{◌+◌, ◌≤◌, ℕ, List, length, map, Option, Some, None}
use Rattle.std.specs.List.{sum}
use Rattle.mvt_plane.specs.Counted.{Counted, ticked}
use Rattle.mvt_plane.specs.Position.{Position}
use Rattle.mvt_status.specs.Counts.{raised}

-- how many vertices rings have
abbrev pub vertex_count : List (List Position) → ℕ
vertex_count rings = sum (map length rings)

-- at most so many tests, probes and visits more, and no number of the count is less
pub record AddsWork (tests probes visits : ℕ) (before after : Counted) : Type 0 where
  pub tests_added : after.tests ≤ before.tests + tests
  pub probes_added : after.probes ≤ before.probes + probes
  pub visits_added : after.visits ≤ before.visits + visits
  pub no_fewer_tests : before.tests ≤ after.tests
  pub no_fewer_probes : before.probes ≤ after.probes
  pub no_fewer_visits : before.visits ≤ after.visits

-- what is counted at least: a test, where a meeting was found, and else so many probes
abbrev pub IsCounted : {T : Type 0} → ℕ → Counted → Counted → Option T → Type 0
IsCounted probes before after None = raised probes before.probes ≤ after.probes
IsCounted probes before after (Some it) = ticked before.tests ≤ after.tests

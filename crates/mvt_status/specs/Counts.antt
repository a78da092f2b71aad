-- What a status may add to a count.
use Rattle.std.specs.Prelude.{◌≡◌, ℕ, zero, suc, ◌+◌, ◌-◌, ◌^◌, ◌≤◌, eqb, if◌then◌else◌, min}
use Rattle.mvt_plane.specs.Counted.{Counted}

-- how many binary digits a number has: one more from each power of two on
unfoldable pub bits : ℕ → ℕ
bits zero = 0
bits (suc number) = if eqb (suc number) (2 ^ bits number) then suc (bits number) else bits number

-- a count after so many ticks: it stays at the greatest of 64 bits
abbrev pub raised : ℕ → ℕ → ℕ
raised ticks count = min (count + ticks) (2 ^ 64 - 1)

-- no test more, and at most as many probes and visits
pub record AddsAtMost (probes visits : ℕ) (before after : Counted) : Type 0 where
  pub tests : after.tests ≡ before.tests
  pub no_fewer_probes : before.probes ≤ after.probes
  pub probes_added : after.probes ≤ before.probes + probes
  pub no_fewer_visits : before.visits ≤ after.visits
  pub visits_added : after.visits ≤ before.visits + visits

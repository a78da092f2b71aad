use Rattle.std.proofs.Common.{ℕ, ◌<◌}
use Rattle.mvt_sweep.specs.Rings.{rings_of}
use Rattle.mvt_rules.specs.Ring.{BreaksRings}
use Rattle.mvt_polygon.proofs.rings.check_rings.Given as goal

-- the rings so far have no fault
abbrev pub invariant-loop-ring : goal.invariant-loop-ring
invariant-loop-ring l = (ring : ℕ) → ring < l.ring → (code : ℕ) → ¬ BreaksRings (rings_of l.rings) code ring

use Rattle.std.proofs.Common.{ℕ, ◌<◌}
use Rattle.mvt_sweep.specs.Rings.{rings_of}
use Rattle.mvt_rules.specs.Ring.{HasNoArea}
use Rattle.mvt_mend.proofs.kept.begin_with_hole.Given as goal

-- the rings so far have no area
abbrev pub invariant-loop-ring : goal.invariant-loop-ring
invariant-loop-ring l = (before : ℕ) → before < l.ring → HasNoArea (rings_of l.rings) before

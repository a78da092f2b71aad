use Rattle.std.proofs.Common.{◌≡◌, take}
use Rattle.mvt_sweep.specs.Rings.{rings_of}
use Rattle.mvt_mend.proofs.kept.are_same.Given as goal

-- the rings so far have the same vertices
abbrev pub invariant-loop-ring : goal.invariant-loop-ring
invariant-loop-ring l = take l.ring (rings_of l.one) ≡ take l.ring (rings_of l.other)

use Rattle.std.proofs.Common.{◌≡◌, take}
use Rattle.mvt_sweep.specs.Work.{vertex_count}
use Rattle.mvt_sweep.specs.Rings.{rings_of}
use Rattle.mvt_sweep.proofs.sweep.listing.count_of.Given as goal

-- the vertices of the rings so far are counted
abbrev pub invariant-loop-ring : goal.invariant-loop-ring
invariant-loop-ring l = l.count ≡ vertex_count (take l.ring (rings_of l.rings))

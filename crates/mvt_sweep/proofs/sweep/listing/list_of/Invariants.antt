use Rattle.std.proofs.Common.{take}
use Rattle.mvt_sweep.specs.Calls.SweepVertices.{IsListOf}
use Rattle.mvt_sweep.specs.Rings.{rings_of}
use Rattle.mvt_sweep.proofs.sweep.listing.list_of.Given as goal

-- the vertices of the rings so far are added
abbrev pub invariant-loop-ring : goal.invariant-loop-ring
invariant-loop-ring l = IsListOf (take l.ring (rings_of l.rings)) l.list.items

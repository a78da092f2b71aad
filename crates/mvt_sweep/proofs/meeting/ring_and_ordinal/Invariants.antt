use Rattle.std.proofs.Common.{◌≡◌, ◌+◌, take}
use Rattle.mvt_sweep.specs.Work.{vertex_count}
use Rattle.mvt_sweep.specs.Rings.{rings_of}
use Rattle.mvt_sweep.proofs.meeting.ring_and_ordinal.Given as goal

-- the vertices of the rings so far are taken off
abbrev pub invariant-loop-ring : goal.invariant-loop-ring
invariant-loop-ring l = l.number ≡ vertex_count (take l.ring (rings_of l.rings)) + l.left

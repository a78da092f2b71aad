use Rattle.std.proofs.Common.{◌≡◌, List}
use Rattle.mvt_fault.specs.declared.ring.RingEdge.{RingEdge}
use Rattle.mvt_plane.specs.Position.{Position}
use Rattle.mvt_sweep.specs.Calls.SweepVertices.{IsNumbered}
use Rattle.mvt_sweep.specs.Calls.RingNotes.{IsIndexOf}
use Rattle.mvt_sweep.proofs.sweep.ring_index.RingIndex.ring_of.Given as goal

-- the ring is that of the vertex so far
abbrev pub invariant-loop-before : goal.invariant-loop-before
invariant-loop-before l = (rings : List (List Position)) (at : RingEdge) → IsIndexOf rings l.vertices l.self.rings.items → IsNumbered rings l.before at → l.ring ≡ at.ring

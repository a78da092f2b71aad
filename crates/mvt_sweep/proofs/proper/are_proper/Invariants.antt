use Rattle.std.proofs.Common.{◌≡◌, ℕ, ◌<◌, List, slice_get, Some}
use Rattle.mvt_plane.specs.Position.{Position}
use Rattle.mvt_sweep.specs.Rings.{rings_of}
use Rattle.mvt_sweep.specs.Calls.Proper.{IsProperRing}
use Rattle.mvt_sweep.proofs.proper.are_proper.Given as goal

-- the rings so far are proper
abbrev pub invariant-loop-ring : goal.invariant-loop-ring
invariant-loop-ring l = (number : ℕ) → number < l.ring → (ring : List Position) → slice_get (rings_of l.rings) number ≡ Some ring → IsProperRing ring

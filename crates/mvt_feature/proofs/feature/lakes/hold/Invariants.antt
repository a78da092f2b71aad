use Rattle.std.proofs.Common.{◌≡◌, ◌<◌, ◌≤◌, ℕ, length}
use Rattle.mvt_feature.specs.Calls.Lands.{IsHeld}
use Rattle.mvt_feature.proofs.feature.lakes.hold.Given as goal

-- the holes so far are held, and those that were
abbrev pub invariant-loop-hole : goal.invariant-loop-hole
invariant-loop-hole l = record {
  size : length l.held ≡ length l.fn.held;
  added : (hole : ℕ) → hole < l.hole → l.from ≤ hole → IsHeld l.ring_cells l.held hole;
  kept : (hole : ℕ) → IsHeld l.ring_cells l.fn.held hole → IsHeld l.ring_cells l.held hole;
}

use Rattle.std.proofs.Common.{◌≡◌, ◌⊎◌, ◌<◌, ◌≤◌, ℕ, get_or, length}
use Rattle.mvt_feature.proofs.feature.lakes.write_cell.Given as goal

-- the rings so far have the cell, and the others are as they were
abbrev pub invariant-loop-ring : goal.invariant-loop-ring
invariant-loop-ring l = record {
  size : length l.first ≡ length l.fn.first;
  written : (ring : ℕ) → ring < l.ring → l.from ≤ ring → get_or l.first ring 0 ≡ l.cell;
  kept : (ring : ℕ) → (ring < l.from) ⊎ (l.to ≤ ring) → get_or l.first ring 0 ≡ get_or l.fn.first ring 0;
}

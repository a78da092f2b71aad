use Rattle.std.proofs.Common.{◌≡◌, ℕ, ◌<◌, length, slice_index}
use Rattle.polygon_tests.proofs.status.count_up.Given as goal

-- the numbers so far are at their own places
abbrev pub invariant-loop-edge : goal.invariant-loop-edge
invariant-loop-edge g l = record {
  many : length (g.S.Status.edges l.status) ≡ l.edge;
  numbered : (at : ℕ) → at < l.edge → slice_index (g.S.Status.edges l.status) at ≡ at;
}

use Rattle.std.proofs.Common.{ℕ, ◌<◌, ◌≤◌, get_or}
use Rattle.mvt_wire.proofs.varint.varint_size.Given as goal

-- none of the first i bytes ends the varint
abbrev pub invariant-loop-i : goal.invariant-loop-i
invariant-loop-i l = record {
  few : l.i ≤ 9;
  continued : (k : ℕ) → k < l.i → 128 ≤ get_or l.rest k 0;
}

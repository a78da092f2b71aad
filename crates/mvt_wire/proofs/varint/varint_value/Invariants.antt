use Rattle.std.proofs.Common.{◌≡◌, ◌≤◌, length, drop}
use Rattle.mvt_wire.specs.Varint.{sum_of_groups}
use Rattle.mvt_wire.proofs.varint.varint_value.Given as goal

-- the groups from the i-th on are summed
abbrev pub invariant-loop-i : goal.invariant-loop-i
invariant-loop-i l = record {
  within : l.i ≤ length l.encoding;
  value : l.value ≡ sum_of_groups (drop l.i l.encoding);
}

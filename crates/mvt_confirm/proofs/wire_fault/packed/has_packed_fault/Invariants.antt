use Rattle.std.proofs.Common.{◌-◌, length}
use Rattle.mvt_confirm.proofs.Wire.PackedWalk.{IsPassing}
use Rattle.mvt_confirm.proofs.wire_fault.packed.has_packed_fault.Given as goal

abbrev pub invariant-walk : goal.invariant-walk
invariant-walk l = IsPassing l.part l.place l.cause.code l.at

abbrev pub decreases-walk : goal.decreases-walk
decreases-walk l = length l.part - l.at

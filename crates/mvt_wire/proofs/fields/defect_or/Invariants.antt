use Rattle.std.proofs.Common.{List, ◌-◌, length}
use Rattle.mvt_wire.specs.Field.{Entry}
use Rattle.mvt_wire.proofs.fields.defect_or.Given as goal
use Rattle.mvt_wire.proofs.Walking.{IsWalking}

abbrev pub invariant-walk : goal.invariant-walk
invariant-walk l = (passed : List Entry) × IsWalking l.fn.fields.bytes l.fn.fields.at l.fields passed

abbrev pub decreases-walk : goal.decreases-walk
decreases-walk l = length l.fields.bytes - l.fields.at

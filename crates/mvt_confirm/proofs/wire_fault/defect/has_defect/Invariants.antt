use Rattle.std.proofs.Common.{◌-◌, List, length}
use Rattle.mvt_wire.specs.Field.{Entry}
use Rattle.mvt_confirm.proofs.wire_fault.defect.has_defect.Given as goal
use Rattle.mvt_confirm.specs.Calls.MessageBytes.{front}
use Rattle.mvt_wire.proofs.Walking.{IsWalking}

abbrev pub invariant-walk : goal.invariant-walk
invariant-walk l = (entries : List Entry) × IsWalking (front l.place) l.place.span.from l.fields entries

abbrev pub decreases-walk : goal.decreases-walk
decreases-walk l = length l.fields.bytes - l.fields.at

use Rattle.std.proofs.Common.{◌-◌, length}
use Rattle.mvt_confirm.proofs.Wire.FieldCounts.{IsCounting}
use Rattle.mvt_confirm.specs.Calls.MessageBytes.{front}
use Rattle.mvt_confirm.proofs.wire_fault.end.count_fields.Given as goal

abbrev pub invariant-walk : goal.invariant-walk
invariant-walk l = IsCounting (front l.place) l.place.span.from l.fn.message l.field_number l.fields l.counts.of_number l.counts.known

abbrev pub decreases-walk : goal.decreases-walk
decreases-walk l = length l.fields.bytes - l.fields.at

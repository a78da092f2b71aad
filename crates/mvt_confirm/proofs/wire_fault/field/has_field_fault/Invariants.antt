use Rattle.std.proofs.Common.{◌-◌, length}
use Rattle.mvt_confirm.proofs.Wire.FieldFaults.{IsLooking}
use Rattle.mvt_confirm.specs.Calls.MessageBytes.{front}
use Rattle.mvt_confirm.proofs.wire_fault.field.has_field_fault.Given as goal

abbrev pub invariant-walk : goal.invariant-walk
invariant-walk l = IsLooking (front l.place) l.place.span.from l.fn.message l.cause l.fields l.occurred l.found

abbrev pub decreases-walk : goal.decreases-walk
decreases-walk l = length l.fields.bytes - l.fields.at

use Rattle.std.proofs.Common.{◌-◌, length, string_bytes}
use Rattle.mvt_engine.proofs.FieldsLineWalk.{Listing}
use Rattle.mvt_engine.proofs.fields.line.push_fields.Given as goal

abbrev pub invariant-walk : goal.invariant-walk
invariant-walk l = Listing l.input l.fields (string_bytes l.line) l.is_first

abbrev pub decreases-walk : goal.decreases-walk
decreases-walk l = length l.fields.bytes - l.fields.at

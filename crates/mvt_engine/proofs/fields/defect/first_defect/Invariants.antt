use Rattle.std.proofs.Common.{List, ◌-◌, length}
use Rattle.mvt_wire.specs.Field.{Entry}
use Rattle.mvt_engine.proofs.FieldsLineWalk.{Passing}
use Rattle.mvt_engine.proofs.fields.defect.first_defect.Given as goal

abbrev pub invariant-walk : goal.invariant-walk
invariant-walk l = (entries : List Entry) × Passing l.input l.fields entries

abbrev pub decreases-walk : goal.decreases-walk
decreases-walk l = length l.fields.bytes - l.fields.at

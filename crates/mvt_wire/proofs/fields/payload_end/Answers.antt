use Rattle.std.proofs.Common.{refl, arith}
use Rattle.mvt_wire.specs.Field.{past_end}
use Rattle.mvt_wire.proofs.fields.payload_end.Goals as goal

pub returns-then-size-bytes-clause-defect : goal.returns-then-size-bytes-clause-defect
returns-then-size-bytes-clause-defect c = past_end _ _ _ _ c.requires.key c.requires.end (omega arith) refl

use Rattle.std.proofs.Common.{refl}
use Rattle.mvt_wire.specs.Field.{leading_varint}
use Rattle.mvt_wire.proofs.fields.read_leading.Goals as goal

pub returns-in-Err-clause-defect : goal.returns-in-Err-clause-defect
returns-in-Err-clause-defect c = leading_varint _ _ _ _ c.requires.key c.requires.leading c.in-Err.ensures.refused refl

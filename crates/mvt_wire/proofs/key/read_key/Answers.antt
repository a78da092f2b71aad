use Rattle.std.proofs.Common.{refl, arith}
use Rattle.mvt_wire.specs.Field.{key}
use Rattle.mvt_wire.proofs.Encoding.Defects.{BadNumber-at, BadWireType-at}
use Rattle.mvt_wire.proofs.key.read_key.Goals as goal

pub returns-in-Err-clause-defect : goal.returns-in-Err-clause-defect
returns-in-Err-clause-defect c = key _ c.in-Err.ensures.refused refl

pub returns-then-not-is_key-clause-defect : goal.returns-then-not-is_key-clause-defect
returns-then-not-is_key-clause-defect c = BadNumber-at _ _ _ _ _ c.in-Ok.ensures.found c.is_key.ensures c.if-not-is_key.true

pub returns-in_default-clause-defect : goal.returns-in_default-clause-defect
returns-in_default-clause-defect c =
    let is = c.is_key.ensures.0 c.if-not-is_key.false in
    BadWireType-at _ _ _ _ c.in-Ok.ensures.found is.1 is.0 (omega arith) (omega arith) (omega arith) (omega arith)

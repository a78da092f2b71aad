use Rattle.mvt_wire.proofs.Walks.{FindsDefect-at}
use Rattle.mvt_wire.proofs.fields.Fields.next_field.Goals as goal

pub returns-in-Err-clause-defect : goal.returns-in-Err-clause-defect
returns-in-Err-clause-defect c = FindsDefect-at _ c.self.inside.bytes.now c.self.inside.at _ c.self.view_is c.if-self.false c.in-Err.ensures.defect

use Rattle.std.proofs.Common.{append_assoc}
use Rattle.mvt_engine.proofs.fields.line.push_payload.Goals as goal

pub returns : goal.returns
returns c = simp append_assoc c.write.ensures.bytes

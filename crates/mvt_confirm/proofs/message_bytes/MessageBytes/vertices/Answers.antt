use Rattle.std.proofs.Common.{refl}
use Rattle.mvt_confirm.proofs.message_bytes.MessageBytes.vertices.Goals as goal

pub returns : goal.returns
returns c = λ rings drawn.
    c.new.ensures drawn.feature_record.geometry rings (c.geometry.ensures drawn.feature_record drawn.is) (record { typed = refl; spelled = drawn.drawn.spelled })

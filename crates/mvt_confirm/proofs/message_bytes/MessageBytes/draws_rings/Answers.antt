use Rattle.mvt_confirm.proofs.Features.FeatureNumbers.{draws_if_fit, draws_none}
use Rattle.mvt_confirm.proofs.message_bytes.MessageBytes.draws_rings.Goals as goal

pub returns-then-eq : goal.returns-then-eq
returns-then-eq c = λ it is.
    draws_if_fit it c.kind.result c.eq.result (c.kind.ensures it is) c.eq.ensures c.draws_rings.result c.if-eq.true (c.draws_rings.ensures it.geometry (c.geometry.ensures it is))

pub returns-else-eq : goal.returns-else-eq
returns-else-eq c = λ it is. draws_none it c.kind.result c.eq.result (c.kind.ensures it is) c.eq.ensures c.if-eq.false

use Rattle.std.proofs.Common.{◌∙◌, length, ap, arith}
use Rattle.mvt_status.proofs.Halves.{one_at_least}
use Rattle.mvt_status.proofs.vec_status.VecStatusStatus.split_point.Goals as goal

pub returns-clause-probed : goal.returns-clause-probed
returns-clause-probed g c = λ some.
    one_at_least (length c.deref.result.now) _ _ (omega (arith, ap length (c.deref.ensures.value ∙ c.self.view_is))) c.split_in.ensures.probed

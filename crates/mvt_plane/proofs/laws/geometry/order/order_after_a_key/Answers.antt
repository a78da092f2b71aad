use Rattle.mvt_plane.proofs.Orders.Gaps.{after_trans, after_apart}
use Rattle.mvt_plane.proofs.laws.geometry.order.order_after_a_key.Goals as goal

pub returns-clause-transitive : goal.returns-clause-transitive
returns-clause-transitive c = after_trans

pub returns-clause-strict : goal.returns-clause-strict
returns-clause-strict c = after_apart

use Rattle.mvt_plane.proofs.Orders.Gaps.{below_trans, below_apart}
use Rattle.mvt_plane.proofs.laws.geometry.order.order_between_keys.Goals as goal

pub returns-clause-transitive : goal.returns-clause-transitive
returns-clause-transitive c = below_trans

pub returns-clause-strict : goal.returns-clause-strict
returns-clause-strict c = below_apart

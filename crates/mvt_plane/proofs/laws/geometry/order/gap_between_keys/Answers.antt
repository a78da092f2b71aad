use Rattle.mvt_plane.proofs.Orders.Gaps.{gap_between, gap_positive_between}
use Rattle.mvt_plane.proofs.laws.geometry.order.gap_between_keys.Goals as goal

pub returns-clause-sum : goal.returns-clause-sum
returns-clause-sum c = gap_between

pub returns-clause-positive : goal.returns-clause-positive
returns-clause-positive c = gap_positive_between

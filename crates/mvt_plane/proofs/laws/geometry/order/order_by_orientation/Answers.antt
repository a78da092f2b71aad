use Rattle.mvt_plane.proofs.Orders.Gaps.{height_by_orientation, after_by_orientation, orientation_by_after}
use Rattle.mvt_plane.proofs.laws.geometry.order.order_by_orientation.Goals as goal

pub returns-clause-above : goal.returns-clause-above
returns-clause-above c = height_by_orientation

pub returns-clause-at_vertex : goal.returns-clause-at_vertex
returns-clause-at_vertex c = λ vertex one other. (after_by_orientation vertex one other, orientation_by_after vertex one other)

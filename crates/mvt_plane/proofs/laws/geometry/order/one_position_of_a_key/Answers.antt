use Rattle.mvt_plane.proofs.Orders.Gaps.{same_key}
use Rattle.mvt_plane.proofs.laws.geometry.order.one_position_of_a_key.Goals as goal

pub returns : goal.returns
returns c = same_key

use Rattle.mvt_plane.proofs.Orders.Gaps.{gap_by_slope}
use Rattle.mvt_plane.proofs.laws.geometry.order.gap_grows_by_slope.Goals as goal

pub returns : goal.returns
returns c = gap_by_slope

use Rattle.mvt_plane.proofs.Points.CommonPoints.{named_is_common}
use Rattle.mvt_plane.proofs.laws.geometry.points.named_is_common.Goals as goal

pub returns : goal.returns
returns c = named_is_common

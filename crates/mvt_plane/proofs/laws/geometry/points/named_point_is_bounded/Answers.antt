use Rattle.mvt_plane.proofs.Points.NamedPoints.{named_is_bounded}
use Rattle.mvt_plane.proofs.laws.geometry.points.named_point_is_bounded.Goals as goal

pub returns : goal.returns
returns c = named_is_bounded

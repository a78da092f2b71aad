use Rattle.mvt_plane.proofs.Points.NamedPoints.{one_named}
use Rattle.mvt_plane.proofs.laws.geometry.points.one_named_point.Goals as goal

pub returns : goal.returns
returns c = one_named

use Rattle.mvt_plane.proofs.Points.RationalPoints.{lies_on_multiple, is_at_multiple}
use Rattle.mvt_plane.proofs.laws.geometry.points.one_point_of_many_numbers.Goals as goal

pub returns-clause-on_edge : goal.returns-clause-on_edge
returns-clause-on_edge c = lies_on_multiple

pub returns-clause-at : goal.returns-clause-at
returns-clause-at c = is_at_multiple

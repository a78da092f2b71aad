use Rattle.mvt_plane.proofs.Points.RationalPoints.{begin_lies_on, end_lies_on}
use Rattle.mvt_plane.proofs.laws.geometry.points.ends_lie_on_edge.Goals as goal

pub returns-clause-a : goal.returns-clause-a
returns-clause-a c = begin_lies_on

pub returns-clause-b : goal.returns-clause-b
returns-clause-b c = end_lies_on

use Rattle.mvt_plane.proofs.Points.RationalPoints.{lies_on_reversed}
use Rattle.mvt_plane.proofs.laws.geometry.points.either_direction.Goals as goal

pub returns : goal.returns
returns c = λ point a b. lies_on_reversed point (record { a = a; b = b })

use Rattle.mvt_plane.proofs.Points.CommonPoints.{only_at_the_shared_vertex}
use Rattle.mvt_plane.proofs.laws.geometry.points.only_at_the_shared_vertex.Goals as goal

pub returns : goal.returns
returns c = only_at_the_shared_vertex

use Rattle.mvt_plane.proofs.Insides.InsideAsAWhole.{one_vertex_decides, points_together, whole_inside}
use Rattle.mvt_plane.proofs.laws.geometry.inside.one_vertex_decides.Goals as goal

pub returns-clause-vertices : goal.returns-clause-vertices
returns-clause-vertices c = one_vertex_decides

pub returns-clause-points : goal.returns-clause-points
returns-clause-points c = points_together

pub returns-clause-whole : goal.returns-clause-whole
returns-clause-whole c = whole_inside

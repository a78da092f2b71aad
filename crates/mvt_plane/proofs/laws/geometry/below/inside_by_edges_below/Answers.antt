use Rattle.mvt_plane.proofs.Insides.EdgesBelow.{inside_by_edges_below}
use Rattle.mvt_plane.proofs.laws.geometry.below.inside_by_edges_below.Goals as goal

pub returns : goal.returns
returns c = inside_by_edges_below

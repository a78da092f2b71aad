use Rattle.mvt_plane.proofs.Insides.DirectlyBelow.{odd_as_below_the_edge}
use Rattle.mvt_plane.proofs.laws.geometry.below.odd_as_below_the_edge.Goals as goal

pub returns : goal.returns
returns c = odd_as_below_the_edge

use Rattle.mvt_plane.proofs.Insides.EdgeRows.{parity_after, area_after, part_within}
use Rattle.mvt_plane.proofs.laws.geometry.sides.one_more_edge.Goals as goal

pub returns-clause-parity : goal.returns-clause-parity
returns-clause-parity c = parity_after

pub returns-clause-area : goal.returns-clause-area
returns-clause-area c = area_after

pub returns-clause-part : goal.returns-clause-part
returns-clause-part c = part_within

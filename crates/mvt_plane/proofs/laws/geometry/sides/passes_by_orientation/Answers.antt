use Rattle.mvt_plane.proofs.Insides.EdgeRows.{rightward_by_orientation, leftward_by_orientation, apart_by_ends}
use Rattle.mvt_plane.proofs.laws.geometry.sides.passes_by_orientation.Goals as goal

pub returns-clause-rightward : goal.returns-clause-rightward
returns-clause-rightward c = rightward_by_orientation

pub returns-clause-leftward : goal.returns-clause-leftward
returns-clause-leftward c = leftward_by_orientation

pub returns-clause-apart : goal.returns-clause-apart
returns-clause-apart c = apart_by_ends

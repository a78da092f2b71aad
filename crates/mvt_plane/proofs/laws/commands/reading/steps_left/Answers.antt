use Rattle.mvt_plane.proofs.Spelling.Readers.{points_left, line_left, first_left}
use Rattle.mvt_plane.proofs.laws.commands.reading.steps_left.Goals as goal

pub returns-clause-points : goal.returns-clause-points
returns-clause-points c = points_left

pub returns-clause-line : goal.returns-clause-line
returns-clause-line c = line_left

pub returns-clause-one : goal.returns-clause-one
returns-clause-one c = first_left

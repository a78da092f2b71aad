use Rattle.mvt_plane.proofs.Spelling.Courses.{next_path, no_path, path_takes}
use Rattle.mvt_plane.proofs.laws.commands.courses.paths_ahead.Goals as goal

pub returns-clause-some : goal.returns-clause-some
returns-clause-some c = next_path

pub returns-clause-none : goal.returns-clause-none
returns-clause-none c = no_path

pub returns-clause-takes : goal.returns-clause-takes
returns-clause-takes c = path_takes

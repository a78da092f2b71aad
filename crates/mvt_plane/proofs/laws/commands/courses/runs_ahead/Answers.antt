use Rattle.mvt_plane.proofs.Spelling.Courses.{two_runs, step_ahead}
use Rattle.mvt_plane.proofs.laws.commands.courses.runs_ahead.Goals as goal

pub returns-clause-two : goal.returns-clause-two
returns-clause-two c = two_runs

pub returns-clause-step : goal.returns-clause-step
returns-clause-step c = step_ahead

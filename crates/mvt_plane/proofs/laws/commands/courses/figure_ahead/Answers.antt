use Rattle.mvt_plane.proofs.Spelling.FigurePaths.{points_run, lines_ahead, rings_ahead}
use Rattle.mvt_plane.proofs.laws.commands.courses.figure_ahead.Goals as goal

pub returns-clause-of_points : goal.returns-clause-of_points
returns-clause-of_points c = points_run

pub returns-clause-of_lines : goal.returns-clause-of_lines
returns-clause-of_lines c = lines_ahead

pub returns-clause-of_rings : goal.returns-clause-of_rings
returns-clause-of_rings c = rings_ahead

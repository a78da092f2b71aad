use Rattle.mvt_plane.proofs.Spelling.Geometries.{whole_figure, figure_faultless}
use Rattle.mvt_plane.proofs.laws.commands.reading.figure_by_number.Goals as goal

pub returns-clause-whole : goal.returns-clause-whole
returns-clause-whole c = whole_figure

pub returns-clause-faultless : goal.returns-clause-faultless
returns-clause-faultless c = figure_faultless

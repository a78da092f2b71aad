use Rattle.mvt_plane.proofs.Spelling.Figures.{one_after}
use Rattle.mvt_plane.proofs.Spelling.Readers.{after_line, after_ring}
use Rattle.mvt_plane.proofs.laws.commands.reading.after_last_position.Goals as goal

pub returns-clause-further : goal.returns-clause-further
returns-clause-further c = one_after

pub returns-clause-line : goal.returns-clause-line
returns-clause-line c = after_line

pub returns-clause-ring : goal.returns-clause-ring
returns-clause-ring c = after_ring

use Rattle.mvt_plane.proofs.Spelling.Readers.{blamed_there, unfinished_there, whole_there}
use Rattle.mvt_plane.proofs.laws.commands.reading.what_ends_a_walk.Goals as goal

pub returns-clause-number : goal.returns-clause-number
returns-clause-number c = blamed_there

pub returns-clause-unfinished : goal.returns-clause-unfinished
returns-clause-unfinished c = unfinished_there

pub returns-clause-whole : goal.returns-clause-whole
returns-clause-whole c = whole_there

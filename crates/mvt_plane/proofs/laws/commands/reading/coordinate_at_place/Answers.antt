use Rattle.mvt_plane.proofs.Spelling.Readers.{unfinished_coordinate, greatest_there, outside_there}
use Rattle.mvt_plane.proofs.laws.commands.reading.coordinate_at_place.Goals as goal

pub returns-clause-unfinished : goal.returns-clause-unfinished
returns-clause-unfinished c = unfinished_coordinate

pub returns-clause-greatest : goal.returns-clause-greatest
returns-clause-greatest c = greatest_there

pub returns-clause-outside : goal.returns-clause-outside
returns-clause-outside c = outside_there

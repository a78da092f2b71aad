use Rattle.mvt_plane.proofs.Spelling.Readers.{leads_within}
use Rattle.mvt_plane.proofs.laws.commands.reading.place_within_numbers.Goals as goal

pub returns : goal.returns
returns c = leads_within

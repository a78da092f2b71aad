use Rattle.mvt_plane.proofs.Spelling.Readers.{leads_on}
use Rattle.mvt_plane.proofs.laws.commands.reading.allowed_number_leads_on.Goals as goal

pub returns : goal.returns
returns c = leads_on

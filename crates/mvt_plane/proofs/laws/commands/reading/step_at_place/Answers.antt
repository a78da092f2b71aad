use Rattle.mvt_plane.proofs.Spelling.Readers.{step_leads, no_step_there}
use Rattle.mvt_plane.proofs.laws.commands.reading.step_at_place.Goals as goal

pub returns-clause-goes : goal.returns-clause-goes
returns-clause-goes c = step_leads

pub returns-clause-stays : goal.returns-clause-stays
returns-clause-stays c = no_step_there

use Rattle.mvt_plane.proofs.Spelling.Readers.{command_leads, other_command_there, other_count_there}
use Rattle.mvt_plane.proofs.laws.commands.reading.command_at_place.Goals as goal

pub returns-clause-goes : goal.returns-clause-goes
returns-clause-goes c = command_leads

pub returns-clause-other_command : goal.returns-clause-other_command
returns-clause-other_command c = other_command_there

pub returns-clause-other_count : goal.returns-clause-other_count
returns-clause-other_count c = other_count_there

use Rattle.mvt_plane.proofs.Spelling.CommandFaults.{one_command_fault}
use Rattle.mvt_plane.proofs.laws.commands.one_command_fault.Goals as goal

pub returns-clause-one : goal.returns-clause-one
returns-clause-one c = one_command_fault

use Rattle.mvt_plane.proofs.Spelling.CommandFaults.{figure_or_command_fault}
use Rattle.mvt_plane.proofs.laws.commands.figure_or_command_fault.Goals as goal

pub returns : goal.returns
returns c = figure_or_command_fault

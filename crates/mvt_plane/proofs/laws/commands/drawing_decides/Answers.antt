use Rattle.mvt_plane.proofs.Spelling.SpellingPrefixes.{passes_spells}
use Rattle.mvt_plane.proofs.Spelling.CommandFaults.{has_command_fault}
use Rattle.mvt_plane.proofs.Spelling.Figures.{draws_figure}
use Rattle.mvt_plane.proofs.Spelling.SoundStates.{sound_after_start}
use Rattle.mvt_plane.proofs.laws.commands.drawing_decides.Goals as goal

pub returns-clause-figure : goal.returns-clause-figure
returns-clause-figure c = passes_spells

pub returns-clause-fault : goal.returns-clause-fault
returns-clause-fault c = has_command_fault

pub returns-clause-words : goal.returns-clause-words
returns-clause-words c = draws_figure

pub returns-clause-sound : goal.returns-clause-sound
returns-clause-sound c = sound_after_start

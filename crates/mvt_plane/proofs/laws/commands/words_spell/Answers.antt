use Rattle.mvt_plane.proofs.Spelling.CommandWords.{words_spell}
use Rattle.mvt_plane.proofs.laws.commands.words_spell.Goals as goal

pub returns : goal.returns
returns c = words_spell

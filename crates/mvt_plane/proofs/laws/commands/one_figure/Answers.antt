use Rattle.mvt_plane.proofs.Spelling.Spellings.{one_figure}
use Rattle.mvt_plane.proofs.laws.commands.one_figure.Goals as goal

pub returns : goal.returns
returns c = one_figure

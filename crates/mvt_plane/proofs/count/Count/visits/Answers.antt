use Rattle.std.proofs.Common.{rules}
use Rattle.mvt_plane.proofs.count.Count.visits.Goals as goal

pub returns : goal.returns
returns c = search rules

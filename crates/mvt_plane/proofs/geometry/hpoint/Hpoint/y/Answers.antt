use Rattle.std.proofs.Common.{rules}
use Rattle.mvt_plane.proofs.geometry.hpoint.Hpoint.y.Goals as goal

pub returns-clause-value : goal.returns-clause-value
returns-clause-value c = search rules

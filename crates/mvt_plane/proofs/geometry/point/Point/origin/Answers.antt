use Rattle.std.proofs.Common.{rules}
use Rattle.mvt_plane.proofs.geometry.point.Point.origin.Goals as goal

pub returns : goal.returns
returns c = search rules

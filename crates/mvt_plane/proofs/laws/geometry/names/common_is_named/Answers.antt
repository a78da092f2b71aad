use Rattle.mvt_plane.proofs.Points.NamedWhereCommon.{common_is_named}
use Rattle.mvt_plane.proofs.laws.geometry.names.common_is_named.Goals as goal

pub returns : goal.returns
returns c = common_is_named

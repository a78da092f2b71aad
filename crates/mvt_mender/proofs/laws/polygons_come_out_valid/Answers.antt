use Rattle.mvt_mender.proofs.MendingLaws.{none_stays}
use Rattle.mvt_mender.proofs.laws.polygons_come_out_valid.Goals as goal

pub returns : goal.returns
returns c = none_stays

use Rattle.mvt_mender.proofs.MendingLaws.{mended_stays, valid_stays}
use Rattle.mvt_mender.proofs.laws.valid_stays.Goals as goal

pub returns-clause-valid : goal.returns-clause-valid
returns-clause-valid c = valid_stays

pub returns-clause-mended : goal.returns-clause-mended
returns-clause-mended c = mended_stays

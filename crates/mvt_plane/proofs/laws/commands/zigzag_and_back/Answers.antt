use Rattle.mvt_plane.proofs.Spelling.Parameters.{unzigzag-zigzag, zigzag-unzigzag}
use Rattle.mvt_plane.proofs.laws.commands.zigzag_and_back.Goals as goal

pub returns-clause-there : goal.returns-clause-there
returns-clause-there c = zigzag-unzigzag

pub returns-clause-back : goal.returns-clause-back
returns-clause-back c = unzigzag-zigzag

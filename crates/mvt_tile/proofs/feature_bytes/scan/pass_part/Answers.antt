use Rattle.mvt_tile.proofs.Reading.ScannedFeatures.{fits_next, PassesParts-more}
use Rattle.mvt_tile.proofs.feature_bytes.scan.pass_part.Goals as goal

pub add-requires : goal.add-requires
add-requires c = fits_next c.requires.passed.1 c.in-Some.ensures

pub returns-in-Some-clause-passes : goal.returns-in-Some-clause-passes
returns-in-Some-clause-passes c = λ from so_far. PassesParts-more so_far c.in-Some.ensures c.add.new.self c.add.ensures

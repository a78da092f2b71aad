use Rattle.mvt_tile.proofs.Reading.FeatureParts.{shown}
use Rattle.mvt_tile.proofs.feature_bytes.FeatureBytes.geometry.Goals as goal

pub returns-clause-encodes : goal.returns-clause-encodes
returns-clause-encodes c = shown c.args.self.now

pub returns-clause-all : goal.returns-clause-all
returns-clause-all c = λ feature_record encodes. c.new.ensures feature_record.geometry encodes.geometry

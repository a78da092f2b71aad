use Rattle.mvt_tile.proofs.feature_bytes.FeatureBytes.tags.Goals as goal

pub returns-clause-all : goal.returns-clause-all
returns-clause-all c = λ feature_record encodes. c.new.ensures feature_record.tags encodes.tags

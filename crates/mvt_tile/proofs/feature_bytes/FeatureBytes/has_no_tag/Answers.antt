use Rattle.std.proofs.lemmas.Bool.{eqb-true}
use Rattle.mvt_wire.proofs.FieldNumbers.NumberSpans.{none_in}
use Rattle.mvt_tile.proofs.feature_bytes.FeatureBytes.has_no_tag.Goals as goal

pub returns : goal.returns
returns c = λ same feature_record encodes.
    let self = c.args.self.now in
    none_in self.bytes.now 2 self.parts.tags self.tags_stand (eqb-true self.parts.tags.at self.parts.tags.last same) feature_record.tags encodes.tags

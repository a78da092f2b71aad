use Rattle.mvt_wire.proofs.Encoding.Entries.{no_longer_field}
use Rattle.mvt_wire.proofs.laws.no_field_begins_another.Goals as goal

pub returns : goal.returns
returns c = no_longer_field

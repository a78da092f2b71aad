use Rattle.mvt_wire.proofs.Encoding.Entries.{one_field}
use Rattle.mvt_wire.proofs.laws.one_field_a_place.Goals as goal

pub returns : goal.returns
returns c = one_field

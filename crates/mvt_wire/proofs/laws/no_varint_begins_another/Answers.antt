use Rattle.mvt_wire.proofs.Encoding.Varints.{no_longer_varint}
use Rattle.mvt_wire.proofs.laws.no_varint_begins_another.Goals as goal

pub returns : goal.returns
returns c = no_longer_varint

use Rattle.mvt_wire.proofs.Encoding.Entries.{field_extent}
use Rattle.mvt_wire.proofs.laws.field_takes_bytes.Goals as goal

pub returns : goal.returns
returns c = field_extent

use Rattle.mvt_wire.proofs.Encoding.PackedLists.{one_goes_on}
use Rattle.mvt_wire.proofs.laws.varint_list_goes_on.Goals as goal

pub returns : goal.returns
returns c = one_goes_on

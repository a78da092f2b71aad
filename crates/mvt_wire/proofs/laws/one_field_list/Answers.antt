use Rattle.mvt_wire.proofs.Encoding.Messages.{one_list}
use Rattle.mvt_wire.proofs.laws.one_field_list.Goals as goal

pub returns : goal.returns
returns c = one_list

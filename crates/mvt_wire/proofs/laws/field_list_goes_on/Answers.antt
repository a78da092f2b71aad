use Rattle.mvt_wire.proofs.Encoding.Messages.{FieldList-push}
use Rattle.mvt_wire.proofs.laws.field_list_goes_on.Goals as goal

pub returns : goal.returns
returns c = FieldList-push

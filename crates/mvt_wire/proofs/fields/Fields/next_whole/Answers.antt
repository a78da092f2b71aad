use Rattle.mvt_wire.proofs.Encoding.WholeFields.{stands}
use Rattle.mvt_wire.proofs.fields.Fields.next_whole.Goals as goal

pub whole_field-next-requires : goal.whole_field-next-requires
whole_field-next-requires c = stands c.self.view_is c.requires c.if-self.false

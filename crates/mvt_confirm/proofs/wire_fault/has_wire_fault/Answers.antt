use Rattle.mvt_wire.specs.Field.{cause_at}
use Rattle.mvt_confirm.specs.Calls.ByteSpan.{as_span}
use Rattle.mvt_confirm.proofs.Wire.MessageFaults.{in_scope}
use Rattle.mvt_confirm.proofs.wire_fault.has_wire_fault.Goals as goal

pub returns : goal.returns
returns c =
    in_scope c.args.bytes.now c.args.scope.now (as_span c.in-Some.span) (cause_at c.args.code c.args.at c.args.field) c.message_in.result c.has_message_fault.result
    c.in-Some.ensures.there c.message_in.ensures c.has_message_fault.ensures

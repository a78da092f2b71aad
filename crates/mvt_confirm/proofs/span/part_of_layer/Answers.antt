use Rattle.mvt_confirm.specs.Calls.ByteSpan.{as_span}
use Rattle.mvt_wire.proofs.NothingFound.{IfNone_then, IfNone-any}
use Rattle.mvt_confirm.proofs.Wire.PayloadSearch.{one_layer}
use Rattle.mvt_confirm.proofs.span.part_of_layer.Goals as goal

pub returns-in_err-span-clause-none : goal.returns-in_err-span-clause-none
returns-in_err-span-clause-none c = IfNone-any c.from_residual.result (λ span outer there part. c.in_err-span.ensures.none outer there)

pub returns-clause-none : goal.returns-clause-none
returns-clause-none c =
    IfNone_then c.payload_of.result c.payload_of.ensures.none
    (λ none span outer. one_layer c.args.bytes.now c.args.layer c.args.field_number c.args.ordinal span (as_span c.in_ok-span.span) c.in_ok-span.ensures.there none outer)

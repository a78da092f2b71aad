use Rattle.mvt_confirm.specs.Calls.ByteSpan.{as_span}
use Rattle.mvt_confirm.proofs.Features.LayerTexts.{name_here, name_part}
use Rattle.mvt_confirm.proofs.Features.TileScopes.{layer_of_scope, scope_of_layer}
use Rattle.mvt_confirm.proofs.layers.name_of.Goals as goal

pub returns-in_err-span-clause-none : goal.returns-in_err-span-clause-none
returns-in_err-span-clause-none c = rw c.from_residual.ensures (λ tile layer_record is there.
    let found = scope_of_layer c.args.bytes.now tile c.args.layer layer_record is there in
    c.in_err-span.ensures.none found.0 found.1)

pub returns-in_err-name-clause-none : goal.returns-in_err-name-clause-none
returns-in_err-name-clause-none c = rw c.from_residual-in_err-name.ensures (λ tile layer_record is there.
    let found = layer_of_scope c.args.bytes.now tile c.args.layer (as_span c.in_ok-span.span) is c.in_ok-span.ensures.there in
    let name = name_part c.args.bytes.now (as_span c.in_ok-span.span) found.0 found.2 in
    c.in_err-name.ensures.none name.0 name.1)

pub returns-clause-there : goal.returns-clause-there
returns-clause-there c = λ tile is.
    let found = layer_of_scope c.args.bytes.now tile c.args.layer (as_span c.in_ok-span.span) is c.in_ok-span.ensures.there in
    (found.0, found.1, name_here c.args.bytes.now (as_span c.in_ok-span.span) (as_span c.in_ok-name.name) found.0 found.2 c.in_ok-name.ensures.there c.in_ok-name.ensures.forward)

use Rattle.mvt_confirm.specs.Calls.ByteSpan.{as_span}
use Rattle.mvt_confirm.proofs.Features.TileScopes.{feature_of_scope, scope_of_feature}
use Rattle.mvt_confirm.proofs.feature_message.feature_of.Goals as goal

pub returns-in_err-span-clause-none : goal.returns-in_err-span-clause-none
returns-in_err-span-clause-none c = rw c.from_residual.ensures (λ tile layer_record it is there.
    let found = scope_of_feature c.args.bytes.now tile c.args.layer c.args.feature layer_record it is there in
    c.in_err-span.ensures.none found.0 found.1)

pub returns-clause-there : goal.returns-clause-there
returns-clause-there c = λ tile is.
    feature_of_scope c.args.bytes.now tile c.args.layer c.args.feature (as_span c.in_ok-span.span) is c.in_ok-span.ensures.there

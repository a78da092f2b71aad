use Rattle.mvt_confirm.proofs.Features.DrawnFeatures.{draws_decided, none_decided}
use Rattle.mvt_confirm.proofs.geometry.drawn_feature.Goals as goal

pub returns-in_err-place-clause-none : goal.returns-in_err-place-clause-none
returns-in_err-place-clause-none c = rw c.from_residual.ensures (λ tile layer_record it rings is there drawn. c.in_err-place.ensures.none tile layer_record it is there)

pub returns-then-draws_rings-clause-there : goal.returns-then-draws_rings-clause-there
returns-then-draws_rings-clause-there c =
    draws_decided c.args.bytes.now c.args.layer c.args.feature c.in_ok-place.place c.draws_rings.result c.in_ok-place.ensures.there c.draws_rings.ensures c.if-draws_rings.true

pub returns-else-draws_rings-clause-none : goal.returns-else-draws_rings-clause-none
returns-else-draws_rings-clause-none c =
    none_decided c.args.bytes.now c.args.layer c.args.feature c.in_ok-place.place c.draws_rings.result c.in_ok-place.ensures.there c.draws_rings.ensures c.if-draws_rings.false

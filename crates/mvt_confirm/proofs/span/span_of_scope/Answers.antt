use Rattle.std.proofs.Common.{sym, subst}
use Rattle.mvt_wire.specs.Payload.{Span}
use Rattle.mvt_rules.specs.Scope.{IsScope}
use Rattle.mvt_wire.specs.declared.scope.Scope.{Scope}
use Rattle.mvt_wire.proofs.NothingFound.{IfNone_then}
use Rattle.mvt_confirm.proofs.span.span_of_scope.Goals as goal

pub returns-in-Value-clause-none : goal.returns-in-Value-clause-none
returns-in-Value-clause-none c =
    IfNone_then c.part_of_layer.result c.part_of_layer.ensures.none
    (λ none. subst (λ (scope : Scope). (span : Span) → ¬ IsScope c.args.bytes.now scope span) (sym c.in-Value.is) (λ span there. none span there.0 there.1 there.2))

pub returns-in-Feature-clause-none : goal.returns-in-Feature-clause-none
returns-in-Feature-clause-none c =
    IfNone_then c.part_of_layer-in-Feature.result c.part_of_layer-in-Feature.ensures.none
    (λ none. subst (λ (scope : Scope). (span : Span) → ¬ IsScope c.args.bytes.now scope span) (sym c.in-Feature.is) (λ span there. none span there.0 there.1 there.2))

use Rattle.std.proofs.Common.{refl, sym, ◌∙◌}
use Rattle.std.proofs.lemmas.Bool.{eqb-true, eq-eqb}
use Rattle.mvt_splice.proofs.Splicing.OrderedChanges.{fate_of_first, fate_before_first, fate_told, after_layer}
use Rattle.mvt_splice.proofs.fates.has_change_in.Goals as goal

pub returns-in-Some-clause-some : goal.returns-in-Some-clause-some
returns-in-Some-clause-some c = λ own stay.
    let change = c.in-Some.change.now in
    let told = fate_of_first c.args.changes.now change c.in-Some.ensures.value c.args.layer change.feature (eqb-true change.layer c.args.layer own) refl in
    fate_told change.geometry (sym told ∙ stay change.feature)

pub returns-in-Some-clause-none : goal.returns-in-Some-clause-none
returns-in-Some-clause-none c = λ other feature.
    let change = c.in-Some.change.now in
    let first = c.in-Some.ensures.value in
    fate_before_first c.args.changes.now change first c.args.layer feature c.requires.in_order
    (after_layer change c.args.layer feature 0 (c.requires.begin change (sym first)) (λ own. other (eq-eqb change.layer c.args.layer own)))

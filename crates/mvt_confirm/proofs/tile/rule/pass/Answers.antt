use Rattle.mvt_wire.specs.Field.{entry_of}
use Rattle.std.proofs.lemmas.Bool.{both_ways}
use Rattle.mvt_confirm.proofs.Features.RuleWalks.{other_passed, own_passed, own_refused}
use Rattle.mvt_confirm.proofs.tile.rule.pass.Goals as goal

pub returns-then-field-rule-clause-kept : goal.returns-then-field-rule-clause-kept
returns-then-field-rule-clause-kept c = other_passed c.args.rule c.args.occurred (entry_of c.args.field.now) c.if-field-rule.true

pub returns-then-may_occur-clause-kept : goal.returns-then-may_occur-clause-kept
returns-then-may_occur-clause-kept c =
    let may = c.may_occur.ensures.0 c.if-may_occur.true in
    own_passed c.args.rule c.args.occurred (entry_of c.args.field.now) c.if-field-rule.false may.0 may.1

pub returns-else-may_occur-clause-broken : goal.returns-else-may_occur-clause-broken
returns-else-may_occur-clause-broken c =
    own_refused c.args.rule c.args.occurred (entry_of c.args.field.now) c.if-field-rule.false (λ may. both_ways c.may_occur.result c.if-may_occur.false (c.may_occur.ensures.1 may))

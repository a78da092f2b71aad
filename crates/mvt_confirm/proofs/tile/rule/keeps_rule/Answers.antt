use Rattle.std.proofs.Common.{false}
use Rattle.std.proofs.lemmas.Result.{IfOk-at_ok, IfErr-at_err}
use Rattle.mvt_wire.specs.Field.{entry_of}
use Rattle.mvt_confirm.specs.Calls.Walking.{KeepsRule, KeepsRuleAfter}
use Rattle.mvt_confirm.proofs.Wire.FieldWalks.{all_left, passed, refused, defective, none_left, answered_no, one_with, other_way}
use Rattle.mvt_confirm.proofs.Features.RuleWalks.{kept_at_end, kept_from_none}
use Rattle.mvt_confirm.proofs.tile.rule.keeps_rule.Goals as goal

pub walk-init : goal.walk-init
walk-init c = all_left c.new-fields.result _ c.args.place.now.span.from (KeepsRuleAfter c.args.rule false) (KeepsRule c.args.rule) c.new-fields.ensures (kept_from_none c.args.rule)

pub returns-in_default-item : goal.returns-in_default-item
returns-in_default-item c =
    answered_no c.walk.invariant
    (defective c.walk.fields c.next_field.new.self c.in_default-item.field-0 (KeepsRuleAfter c.args.rule c.walk.occurred) (IfErr-at_err _ c.in_default-item.is c.in-Some.ensures.defect))

pub returns-in_default-pass : goal.returns-in_default-pass
returns-in_default-pass c =
    answered_no c.walk.invariant
    (refused c.walk.fields c.next_field.new.self (entry_of c.in-Ok.field) (IfOk-at_ok _ c.in-Ok.is c.in-Some.ensures.field) (KeepsRuleAfter c.args.rule c.walk.occurred) c.in_default-pass.ensures.broken)

pub walk-preserved : goal.walk-preserved
walk-preserved c =
    one_with
    (passed c.walk.fields c.next_field.new.self (entry_of c.in-Ok.field) (IfOk-at_ok _ c.in-Ok.is c.in-Some.ensures.field) (KeepsRuleAfter c.args.rule c.walk.occurred)
    (KeepsRuleAfter c.args.rule c.in-Some-pass.occurs) c.in-Some-pass.ensures.kept)
    c.walk.invariant

pub returns : goal.returns
returns c =
    one_with c.is_enough.ensures
    (one_with (other_way (kept_at_end c.args.rule c.walk.occurred))
    (one_with (other_way (none_left c.walk.fields c.next_field.new.self (KeepsRuleAfter c.args.rule c.walk.occurred) c.in_default.ensures.over)) c.walk.invariant))

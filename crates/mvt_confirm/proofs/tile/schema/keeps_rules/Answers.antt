use Rattle.std.proofs.lemmas.List.Elements.{All-more}
use Rattle.mvt_wire.specs.declared.schema.FieldRule.{FieldRule}
use Rattle.mvt_confirm.specs.Calls.MessageBytes.{IsMessageWith}
use Rattle.mvt_confirm.specs.Calls.Walking.{KeepsRule}
use Rattle.mvt_confirm.proofs.tile.schema.keeps_rules.Goals as goal

pub loop-rule-preserved : goal.loop-rule-preserved
loop-rule-preserved c =
    All-more (λ (rule : FieldRule). IsMessageWith c.args.place.now (KeepsRule rule)) c.rules-rule-items.result.now c.loop-rule.rule-index _
    c.loop-rule-test.true c.loop-rule.invariant (c.keeps_rule.ensures.0 c.if-not-keeps_rule.false)

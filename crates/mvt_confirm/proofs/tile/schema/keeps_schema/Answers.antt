use Rattle.std.proofs.lemmas.Bool.{both_ways}
use Rattle.mvt_confirm.proofs.Wire.SchemaRules.{schema_by_rules, rules_by_schema, one_by_schema}
use Rattle.mvt_confirm.specs.Calls.MessageBytes.{front}
use Rattle.mvt_confirm.proofs.tile.schema.keeps_schema.Goals as goal

pub returns-then-keeps_rules : goal.returns-then-keeps_rules
returns-then-keeps_rules c =
    let message = front c.args.place.now in
    let one = c.is_one_if_value.ensures in (
      λ is. schema_by_rules c.args.message message c.args.place.now.span.from (c.keeps_rules.ensures.0 c.if-keeps_rules.true) (one.0 is),
      λ held. one.1 (one_by_schema c.args.message message c.args.place.now.span.from held),
    )

pub returns-else-keeps_rules : goal.returns-else-keeps_rules
returns-else-keeps_rules c = (
  λ is. absurd (both_ways c.keeps_rules.result c.if-keeps_rules.false is),
  λ held. c.keeps_rules.ensures.1 (rules_by_schema c.args.message (front c.args.place.now) c.args.place.now.span.from held),
)

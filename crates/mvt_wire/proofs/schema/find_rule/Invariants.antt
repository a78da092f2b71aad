use Rattle.std.proofs.Common.{◌≡◌, drop}
use Rattle.mvt_wire.specs.Schema.{find_rule}
use Rattle.mvt_wire.proofs.schema.find_rule.Given as goal

abbrev pub invariant-loop-rule : goal.invariant-loop-rule
invariant-loop-rule l = find_rule l.rules l.number ≡ find_rule (drop l.rule-index l.rules) l.number

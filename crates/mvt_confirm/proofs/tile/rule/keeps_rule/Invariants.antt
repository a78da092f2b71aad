use Rattle.std.proofs.Common.{◌↔◌, ◌-◌, length}
use Rattle.mvt_confirm.specs.Calls.MessageBytes.{IsMessageWith}
use Rattle.mvt_confirm.specs.Calls.Walking.{KeepsRule, KeepsRuleAfter}
use Rattle.mvt_confirm.proofs.Wire.FieldWalks.{HasLeft}
use Rattle.mvt_confirm.proofs.tile.rule.keeps_rule.Given as goal

-- the fields that are left decide
abbrev pub invariant-walk : goal.invariant-walk
invariant-walk l = HasLeft l.fields (KeepsRuleAfter l.rule l.occurred) ↔ IsMessageWith l.place (KeepsRule l.rule)

abbrev pub decreases-walk : goal.decreases-walk
decreases-walk l = length l.fields.bytes - l.fields.at

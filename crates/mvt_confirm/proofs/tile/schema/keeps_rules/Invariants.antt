use Rattle.std.proofs.Common.{All, take}
use Rattle.mvt_confirm.specs.Calls.MessageBytes.{IsMessageWith}
use Rattle.mvt_confirm.specs.Calls.Walking.{KeepsRule}
use Rattle.mvt_confirm.proofs.tile.schema.keeps_rules.Given as goal

-- the rules so far are kept
abbrev pub invariant-loop-rule : goal.invariant-loop-rule
invariant-loop-rule l = All (λ rule. IsMessageWith l.place (KeepsRule rule)) (take l.rule-index l.rule-items)

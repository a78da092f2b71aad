use Rattle.mvt_tile.proofs.RuleFaults.Seen.{nothing_seen}
use Rattle.mvt_tile.proofs.rules.rule_fault.Goals as goal

pub rule_fault_after-requires-clause-sound : goal.rule_fault_after-requires-clause-sound
rule_fault_after-requires-clause-sound over c = nothing_seen over.R.FeatureRule.IsBroken over.R.FeatureRule.IsKept c.args.bytes.now c.nothing.result c.nothing.ensures

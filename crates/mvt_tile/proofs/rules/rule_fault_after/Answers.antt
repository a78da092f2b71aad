use Rattle.mvt_tile.proofs.RuleFaults.RuleOrder.{stored_first, stored_least, stored_none}
use Rattle.mvt_tile.proofs.rules.rule_fault_after.Goals as goal

pub returns-clause-none : goal.returns-clause-none
returns-clause-none over c =
    stored_none over.R.FeatureRule.IsBroken c.requires.after_tags c.args.bytes.now c.walk_layers.new.layers c.in_ok-walk_layers.ensures.ends over.R.FeatureRule.IsFree over.R.FeatureRule.IsKept
    c.walk_layers.new.found c.find_fault.new.found c.in_ok-walk_layers.ensures.finds c.find_fault.ensures

pub returns-clause-found : goal.returns-clause-found
returns-clause-found over c =
    stored_first over.R.FeatureRule.IsBroken c.requires.after_tags c.args.bytes.now c.walk_layers.new.layers c.in_ok-walk_layers.ensures.ends over.R.FeatureRule.IsFree over.R.FeatureRule.IsKept
    c.walk_layers.new.found c.find_fault.new.found c.in_ok-walk_layers.ensures.finds c.find_fault.ensures

pub returns-clause-least : goal.returns-clause-least
returns-clause-least over c = λ never.
    stored_least over.R.FeatureRule.IsBroken c.requires.after_tags c.args.bytes.now c.walk_layers.new.layers c.in_ok-walk_layers.ensures.ends over.R.FeatureRule.IsFree over.R.FeatureRule.IsKept
    c.walk_layers.new.found c.find_fault.new.found c.in_ok-walk_layers.ensures.finds never c.find_fault.ensures

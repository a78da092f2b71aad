use Rattle.mvt_tile.proofs.RuleFaults.LayerNames.{none_at_end}
use Rattle.mvt_tile.proofs.rules.layer_rules.LayerRules.has_fault.Goals as goal

pub returns-in-None : goal.returns-in-None
returns-in-None c = λ other tile ends. none_at_end c.args.self tile ends c.in-None.ensures.none other

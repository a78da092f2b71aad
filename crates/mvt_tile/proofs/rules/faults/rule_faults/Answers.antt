use Rattle.std.proofs.Common.{sym, subst, List}
use Rattle.mvt_tile.specs.FirstFaults.{AreFirstFaults}
use Rattle.mvt_tile.specs.Calls.Gathered.{AreSummaries}
use Rattle.mvt_tile.specs.declared.rules.summary.LayerSummary.{LayerSummary}
use Rattle.mvt_tile.proofs.RuleFaults.FirstFaults.{first_faults_joined}
use Rattle.mvt_tile.proofs.rules.faults.rule_faults.Goals as goal

pub returns : goal.returns
returns over c = λ tile is.
    let summaries = subst (λ (list : List LayerSummary). AreSummaries list tile) (sym c.deref.ensures.value) (c.in_ok-walk_all_layers.ensures.summaries tile is) in
    let added = c.in_ok-add_faults_of_layers.ensures in
    subst (AreFirstFaults over.R.FeatureRule.IsFree over.R.FeatureRule.IsBroken over.R.FeatureRule.IsKept tile) (sym added.2)
    (first_faults_joined over.R.FeatureRule.IsFree over.R.FeatureRule.IsBroken over.R.FeatureRule.IsKept tile c.requires.after_tags added.0 c.walk_all_layers.new.faults.items
    (added.1 tile summaries) (c.in_ok-walk_all_layers.ensures.gathers tile is))
